use Rattle.std.proofs.Common.{◌≡◌, ℕ, ◌*◌, ◌/◌, sym, ap, ◌∙◌, arith}
use Rattle.divisors.specs.Whole.{gcd_of, lcm_of}
use Rattle.divisors.specs.Lemmas.Gcds.{gcd_pos, lcm_is, lcm_zero, capped, fits, fits_not}
use Rattle.divisors.proofs.whole.lcm.Goals as goal

pub returns-then-a-eq0 : goal.returns-then-a-eq0
returns-then-a-eq0 c =
    let e : 0 ≡ lcm_of c.args.a c.args.b = sym (ap (λ (x : ℕ). lcm_of x c.args.b) c.if-a-eq0.true ∙ lcm_zero c.args.b) in
    record { value = fits (lcm_of c.args.a c.args.b) 0 e (omega arith); least = lcm_is c.args.a c.args.b }

pub nonzero_div-a : goal.nonzero_div-a
nonzero_div-a c = rw c.gcd.ensures.value (gcd_pos c.args.a c.args.b (omega arith))

-- the product that the code takes is the least common multiple
same : (a b g : ℕ) → g ≡ gcd_of a b → a / g * b ≡ lcm_of a b
unfolding lcm_of
same a b g e = ap (λ (x : ℕ). a / x * b) e

pub returns-in_err-l : goal.returns-in_err-l
returns-in_err-l c =
    let e = same c.args.a c.args.b c.gcd.result c.gcd.ensures.value in
    record { value = c.from_residual.ensures ∙ fits_not (lcm_of c.args.a c.args.b) (omega (arith, c.in_err-l.ensures)); least = lcm_is c.args.a c.args.b }

pub returns : goal.returns
returns c =
    let e = same c.args.a c.args.b c.gcd.result c.gcd.ensures.value in
    record { value = c.then_some.ensures ∙ capped (lcm_of c.args.a c.args.b) c.in_ok-l.l (c.in_ok-l.ensures.1 ∙ e); least = lcm_is c.args.a c.args.b }
