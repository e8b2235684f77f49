use Rattle.std.proofs.Common.{rules, ◌≡◌, sym, ◌∙◌}
use Rattle.divisors.specs.Dividing.{divides}
use Rattle.divisors.specs.Fractions.{reduce_of}
use Rattle.divisors.specs.Lemmas.Divides.{divides_lowest}
use Rattle.divisors.proofs.fraction.Fraction.divides_divisor.Goals as goal

pub returns-clause-means : goal.returns-clause-means
returns-clause-means c =
    let a = c.args.self in
    let b = c.args.other in
    let e : c.divides_reduced.result ≡ divides (reduce_of a) (reduce_of b) = search rules in
    let d = divides_lowest a b in
    (λ t. d.0 (sym e ∙ t), λ w. e ∙ d.1 w)
