use Rattle.std.proofs.Common.{◌≡◌, ◌+◌, ◌-◌}
use Rattle.days.specs.Calendar.{year_start}
use Rattle.days.proofs.calendar.find_date.Given as goal

abbrev pub invariant-loop-year : goal.invariant-loop-year
invariant-loop-year l = year_start (l.year - 2000) + l.left ≡ l.n
