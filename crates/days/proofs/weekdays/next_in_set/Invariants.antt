use Rattle.days.specs.Grid.{Searched}
use Rattle.days.proofs.weekdays.next_in_set.Given as goal

abbrev pub invariant-loop-next : goal.invariant-loop-next
invariant-loop-next l = Searched l.set l.day l.next
