use Rattle.divisors.specs.Lemmas.Joined.{strips_as}
use Rattle.divisors.proofs.fraction.Fraction.without_factors_of.Goals as goal
use Rattle.std.proofs.Common.{rules}

pub returns-then-self-ne1-clause-strips : goal.returns-then-self-ne1-clause-strips
returns-then-self-ne1-clause-strips c = strips_as _ _ _ (search rules)

pub returns-clause-strips : goal.returns-clause-strips
returns-clause-strips c = strips_as _ _ _ (search rules)
