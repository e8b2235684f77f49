use Rattle.divisors.specs.Lemmas.Joined.{joins_as}
use Rattle.divisors.proofs.fraction.Fraction.checked_lcm.Goals as goal
use Rattle.std.proofs.Common.{rules}

pub returns-clause-joins : goal.returns-clause-joins
returns-clause-joins c = joins_as _ _ _ (search rules)
