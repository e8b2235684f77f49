-- The leaves worked by hand, computed.
use Rattle.std.proofs.Common.{refl}
use Rattle.divisors.specs.Folding.{fold_in, fold_of}
use Rattle.divisors.specs.Lists.{put, tidy_of}
use Rattle.divisors.specs.Shared.{rest_in, rest_of, shared_of}
use Rattle.divisors.specs.Whole.{gcd_in, gcd_of, lcm_of}
use Rattle.divisors.specs.Written.{barred_of, required_of}
use Rattle.leaf.specs.Numbers.{number_at}
use Rattle.amounts.specs.Layout.{amount, list}
use Rattle.amounts.specs.Values.{above, next_of}
use Rattle.amounts.specs.Worked.{WorkedLeaves}

pub worked_leaves : WorkedLeaves
unfolding required_of barred_of fold_of fold_in tidy_of put lcm_of gcd_of gcd_in shared_of rest_of rest_in above next_of number_at amount list
worked_leaves = record {
  above_on_grid = refl;
  above_off_grid = refl;
  above_rounded = refl;
  above_none = refl;
  lowest = refl;
  past_highest = refl;
  largest_part = refl;
  past_largest_part = refl;
  ends_early = refl;
  not_shortest = refl;
  minimum_above = refl;
  bytes = refl;
  read = refl;
}
