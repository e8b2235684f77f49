use Rattle.std.proofs.Common.{◌≡◌, ◌-◌, ◌*◌, ◌≤◌}
use Rattle.days.specs.Calendar.{year_start}
use Rattle.days.proofs.calendar.year_start.Given as goal

abbrev pub invariant-loop-y : goal.invariant-loop-y
invariant-loop-y l = (l.days ≡ year_start (l.y - 2000)) × (l.days ≤ 366 * (l.y - 2000))
