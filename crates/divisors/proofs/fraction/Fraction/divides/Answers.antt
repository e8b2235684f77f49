use Rattle.divisors.specs.Lemmas.Tests.{multiple_as}
use Rattle.divisors.proofs.fraction.Fraction.divides.Goals as goal
use Rattle.std.proofs.Common.{rules}

pub returns-clause-means : goal.returns-clause-means
returns-clause-means c = multiple_as c.args.self c.args.v _ (search rules)
