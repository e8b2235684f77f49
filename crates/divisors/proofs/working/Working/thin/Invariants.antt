use Rattle.std.proofs.Common.{◌≡◌, ◌≤◌, not, take, filter}
use Rattle.divisors.specs.Dividing.{divided}
use Rattle.divisors.specs.Rows.{held}
use Rattle.divisors.proofs.working.Working.thin.Given as goal

-- the list so far is what is kept of the first
abbrev pub invariant-loop-f : goal.invariant-loop-f
invariant-loop-f l = (held l.thinned ≡ filter (λ x. not (divided l.all x)) (take l.f-index l.all)) × (l.thinned.count ≤ l.f-index)
