use Rattle.std.proofs.Common.{◌≤◌, List}
use Rattle.divisors.specs.declared.fraction.Fraction.{Fraction}
use Rattle.divisors.specs.Folding.{FoldsTo, weight}
use Rattle.divisors.specs.Lists.{IsTidy}
use Rattle.divisors.specs.Rows.{held}
use Rattle.divisors.proofs.working.Working.fold.Given as goal

-- what is held is tidy, and what it folds to, it folded to at the start
abbrev pub invariant-loop : goal.invariant-loop
invariant-loop l = record {
  fits : l.self.count ≤ l.initial.self.count;
  tidy : IsTidy (held l.self);
  folds : (ys : List Fraction) → FoldsTo (held l.self) ys → FoldsTo (held l.initial.self) ys;
}

abbrev pub decreases-loop : goal.decreases-loop
decreases-loop l = weight (held l.self)
