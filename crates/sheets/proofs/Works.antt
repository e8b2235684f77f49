-- The lists worked by hand, computed.
use Rattle.std.proofs.Common.{refl}
use Rattle.divisors.specs.Dividing.{thin_of}
use Rattle.divisors.specs.Folding.{fold_in, fold_of}
use Rattle.divisors.specs.Lists.{put, tidy_of}
use Rattle.divisors.specs.Shared.{rest_in, rest_of, shared_of}
use Rattle.divisors.specs.Whole.{gcd_in, gcd_of, lcm_of}
use Rattle.divisors.specs.Written.{barred_of, required_of}
use Rattle.amounts.specs.Values.{above, next_of}
use Rattle.days.specs.Calendar.{before, day_of, year_start}
use Rattle.days.specs.Weekdays.{next_day, is_on_grid}
use Rattle.sheets.specs.Worked.{ListsWorkedByHand}

pub worked_by_hand : ListsWorkedByHand
unfolding thin_of required_of barred_of fold_of fold_in tidy_of put lcm_of gcd_of gcd_in shared_of rest_of rest_in above next_of before year_start day_of is_on_grid next_day
worked_by_hand = record {
  adjoining = refl;
  apart = refl;
  one_between = refl;
  covered = refl;
  joined = refl;
  not_whole = refl;
  stripped = refl;
  below_zero = refl;
  below_zero_apart = refl;
  near_the_top = refl;
  read_between = refl;
  read_last = refl;
  weekend = refl;
  saturday = refl;
}
