use Rattle.texts.specs.Cursors.{Put}
use Rattle.days.specs.Text.{weekdays_text}
use Rattle.days.proofs.text.put_weekdays.Given as goal

abbrev pub invariant-loop-k : goal.invariant-loop-k
invariant-loop-k l = Put l.fn.out (weekdays_text l.set l.k) l.out
