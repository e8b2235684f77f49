use Rattle.std.proofs.Common.{◌≡◌, ◌≤◌, drop}
use Rattle.divisors.specs.Lists.{put_all, tidy_of}
use Rattle.divisors.specs.Rows.{held}
use Rattle.divisors.proofs.working.Working.tidy.Given as goal

-- what is left, put into the list so far, gives the tidy list
abbrev pub invariant-loop-f : goal.invariant-loop-f
invariant-loop-f l = (l.tidied.count ≤ l.f-index) × (put_all (drop l.f-index l.all) (held l.tidied) ≡ tidy_of l.all)
