use Rattle.std.proofs.Common.{◌≤◌}
use Rattle.days.specs.Calendar.{before, leap}
use Rattle.days.proofs.calendar.date_in.Given as goal

abbrev pub invariant-loop-month : goal.invariant-loop-month
invariant-loop-month l = before (leap l.year) l.month ≤ l.left
