use Rattle.std.proofs.Common.{◌≡◌, ℕ, ◌/◌, sym, ◌∙◌, subst}
use native.Mathlib.Nat.{div-one, div-zero}
use Rattle.divisors.specs.declared.fraction.Fraction.{Fraction}
use Rattle.divisors.specs.Fractions.{LowestTerms, none, reduce_of}
use Rattle.divisors.specs.Whole.{gcd_of}
use Rattle.divisors.specs.Lemmas.Makes.{lowest}
use Rattle.divisors.proofs.fraction.Fraction.lowest_terms.Goals as goal

-- by the divisor in hand
over : (f : Fraction) (g : ℕ) → g ≡ gcd_of f.p f.q → record { p = f.p / g; q = f.q / g } ≡ reduce_of f
over f g e = λ i. record { p = f.p / e i; q = f.q / e i }

none_over : (f : Fraction) → none ≡ record { p = f.p / 0; q = f.q / 0 }
none_over f = λ i. record { p = sym (div-zero f.p) i; q = sym (div-zero f.q) i }

pub returns-then-g-eq0 : goal.returns-then-g-eq0
returns-then-g-eq0 c =
    let f = c.args.self in
    let value = none_over f ∙ over f 0 (sym c.if-g-eq0.true ∙ c.gcd-g.ensures.value) in
    record { value = value; reduces = λ e. subst (LowestTerms f) (sym value) (lowest f e) }

one_over : (f : Fraction) → f ≡ record { p = f.p / 1; q = f.q / 1 }
one_over f = λ i. record { p = sym (div-one f.p) i; q = sym (div-one f.q) i }

pub returns-then-g-eq1 : goal.returns-then-g-eq1
returns-then-g-eq1 c =
    let f = c.args.self in
    let value = one_over f ∙ over f 1 (sym c.if-g-eq1.true ∙ c.gcd-g.ensures.value) in
    record { value = value; reduces = λ e. subst (LowestTerms f) (sym value) (lowest f e) }

pub returns : goal.returns
returns c =
    let f = c.args.self in
    let value = over f c.gcd-g.result c.gcd-g.ensures.value in
    record { value = value; reduces = λ e. subst (LowestTerms f) (sym value) (lowest f e) }
