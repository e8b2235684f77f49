use Rattle.std.proofs.Common.{ℕ, ◌/◌, ◌%◌, ◌<◌, eqb, sym, ap, ◌∙◌, subst, arith}
use Rattle.divisors.specs.Whole.{gcd_of}
use Rattle.divisors.specs.Lemmas.Gcds.{gcd_is, gcd_pos, quotient_pos}
use Rattle.divisors.specs.Lemmas.Multiples.{lowest_test}
use Rattle.divisors.proofs.whole.is_multiple.Goals as goal

pub nonzero_div-result : goal.nonzero_div-result
nonzero_div-result c = subst (λ (x : ℕ). 0 < x) (sym c.gcd.ensures.value) (gcd_pos c.args.p c.args.q (omega arith))

pub nonzero_rem-result-2 : goal.nonzero_rem-result-2
nonzero_rem-result-2 c =
    subst (λ (x : ℕ). 0 < c.args.p / x) (sym c.gcd.ensures.value)
    (quotient_pos c.args.p (gcd_of c.args.p c.args.q) (omega arith) (gcd_is c.args.p c.args.q).left)

pub returns : goal.returns
returns c =
    ap (λ (x : ℕ). eqb (c.args.n % (c.args.p / x)) 0) c.gcd.ensures.value ∙ lowest_test c.args.n c.args.p c.args.q (omega arith)
