use Rattle.std.proofs.Common.{◌≡◌, ℕ, ◌<◌, sym, ap, ◌∙◌, subst, arith, rules}
use Rattle.divisors.specs.Whole.{IsGcd, gcd_of}
use Rattle.divisors.specs.Lemmas.Gcds.{gcd_is, gcd_one, gcd_step, gcd_zero}
use Rattle.divisors.proofs.whole.+gcd.Goals as goal

by_value : (a b r : ℕ) → r ≡ gcd_of a b → record { value : r ≡ gcd_of a b; greatest : IsGcd a b r }
by_value a b r e = record { value = e; greatest = subst (λ (x : ℕ). IsGcd a b x) (sym e) (gcd_is a b) }

pub returns-in-0 : goal.returns-in-0
returns-in-0 t c =
    let b : 0 ≡ c.args.b = search rules in
    by_value c.args.a c.args.b c.args.a (sym (gcd_zero c.args.a) ∙ ap (λ (x : ℕ). gcd_of c.args.a x) b)

pub returns-in-1 : goal.returns-in-1
returns-in-1 t c =
    let b : 1 ≡ c.args.b = search rules in
    by_value c.args.a c.args.b 1 (sym (gcd_one c.args.a) ∙ ap (λ (x : ℕ). gcd_of c.args.a x) b)

pub returns-in_default : goal.returns-in_default
returns-in_default t c =
    let pos : 0 < c.args.b = omega arith in
    by_value c.args.a c.args.b c.gcd.result (c.gcd.ensures.value ∙ gcd_step c.args.a c.args.b pos)
