-- The texts of amounts, divisors and lists.
use Rattle.std.proofs.Common.{◌≡◌, ℕ, ◌^◌, ◌<◌, ◌≤◌, eqb, List, [], ◌∷◌, ◌++◌, length, get_or, drop, ℤ, pos, negsuc, nat_abs, ◌<ℤ◌, decimal, refl, ap, arith}
use Rattle.std.proofs.lemmas.Bool.{cond-false, ne_eqb}
use Rattle.std.proofs.lemmas.Fmt.{length_signed_le}
use Rattle.std.proofs.lemmas.Int.{ints}
use Rattle.std.specs.Fmt.{signed_decimal}
use lib.Signed.{mag}
use Rattle.divisors.specs.declared.fraction.Fraction.{Fraction}
use Rattle.divisors.specs.Fractions.{none}
use Rattle.amounts.specs.Text.{fraction_text, list_text, more_text}

-- no i64 takes more than 20 bytes
pub signed_short : (z : ℤ) → mag z < 2 ^ 63 → length (signed_decimal z) ≤ 20
signed_short z h = length_signed_le 19 z (omega arith) h

pub signed_minus : (z : ℤ) → z <ℤ pos 0 → signed_decimal z ≡ 45 ∷ decimal (nat_abs z)
signed_minus (pos a) h = absurd (omega (arith, ints))
signed_minus (negsuc a) h = refl

pub part_text : (f : Fraction) → (f.q ≡ 1 → ⊥) → fraction_text f ≡ decimal f.p ++ (47 ∷ decimal f.q)
part_text f n = ap (λ (t : List ℕ). decimal f.p ++ t) (cond-false (eqb f.q 1) [] (47 ∷ decimal f.q) (ne_eqb f.q 1 n))

-- one fraction more: what the slice pattern leaves
pub more_step : (fs : List Fraction) → 0 < length fs → more_text fs ≡ 44 ∷ (fraction_text (get_or fs 0 none) ++ more_text (drop 1 fs))
more_step [] h = absurd (omega arith)
more_step (f ∷ fs) h = refl

pub list_step : (fs : List Fraction) → 0 < length fs → list_text fs ≡ fraction_text (get_or fs 0 none) ++ more_text (drop 1 fs)
list_step [] h = absurd (omega arith)
list_step (f ∷ fs) h = refl

pub more_none : (fs : List Fraction) → length fs < 1 → more_text fs ≡ []
more_none [] h = refl
more_none (f ∷ fs) h = absurd (omega arith)

pub list_none : (fs : List Fraction) → length fs < 1 → list_text fs ≡ 45 ∷ []
list_none [] h = refl
list_none (f ∷ fs) h = absurd (omega arith)
