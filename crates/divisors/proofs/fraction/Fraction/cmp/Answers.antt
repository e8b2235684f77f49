use Rattle.std.proofs.Common.{rules}
use Rattle.std.proofs.lemmas.Cmp.{ranked}
use Rattle.divisors.proofs.Sizes.{liked}
use Rattle.divisors.proofs.fraction.Fraction.cmp.Goals as goal

pub returns-then-self-ne0 : goal.returns-then-self-ne0
returns-then-self-ne0 c =
    let a = c.args.self in
    let b = c.args.other in
    liked a.p a.q b.p b.q (search rules) (search rules) c.cmp.result (ranked a.p b.p c.cmp.result c.cmp.ensures)
