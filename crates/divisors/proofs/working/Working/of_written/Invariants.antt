use Rattle.std.proofs.Common.{◌≡◌, ◌≤◌, drop}
use Rattle.divisors.specs.Lists.{put_all, tidy_of}
use Rattle.divisors.specs.Rows.{held}
use Rattle.divisors.specs.Written.{lowest_above}
use Rattle.divisors.proofs.working.Working.of_written.Given as goal

-- what is left, put into the list so far, gives the tidy list
abbrev pub invariant-loop-w : goal.invariant-loop-w
invariant-loop-w l =
    (l.list.count ≤ l.w-index) ×
    (put_all (lowest_above l.above (drop l.w-index l.ws)) (held l.list) ≡ tidy_of (lowest_above l.above l.ws))
