-- The leaves worked by hand, computed.
use Rattle.std.specs.Prelude.{refl}
use Rattle.leaf.specs.Numbers.{number_at}
use Rattle.days.specs.Calendar.{before, day_of, year_start}
use Rattle.days.specs.Worked.{WorkedDays}

pub worked_days : WorkedDays
unfolding before day_of number_at year_start
worked_days = record {
  of_2000 = refl;
  of_2100 = refl;
  bytes = refl;
  window_first = refl;
  weekdays_first = refl;
  window_last = refl;
  no_such_day = refl;
}
