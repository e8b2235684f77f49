-- Multiples of a fraction among all integers: those of its magnitude.
use Rattle.std.proofs.Common.{◌≡◌, ℕ, zero, suc, ◌*◌, ◌/◌, ◌↔◌, List, [], ◌∷◌, ℤ, pos, negsuc, ◌*ℤ◌, neg_ℤ, nat_abs, sym, refl, ap, ◌∙◌, subst, arith}
use Prim.Native.Nat.{◌∣◌}
use native.Mathlib.Nat.{dvd-mul_left, div-mul_cancel}
use lib.IntN.{pos-*ℤ-pos, negsuc-*ℤ-pos}
use Rattle.std.specs.List.{AllByRecursion}
use Rattle.divisors.specs.declared.fraction.Fraction.{Fraction}
use Rattle.divisors.specs.Fractions.{Multiple, MultipleOf}
use Rattle.divisors.specs.Lemmas.Members.{Multiples, NoMultiples}

nat_abs_neg : (n : ℕ) → nat_abs (neg_ℤ (pos n)) ≡ n
nat_abs_neg zero = refl
nat_abs_neg (suc n) = refl

times : (k : ℤ) (n : ℕ) → nat_abs (k *ℤ pos n) ≡ nat_abs k * n
times (pos k) n = ap nat_abs (pos-*ℤ-pos k n)
times (negsuc k) n = ap nat_abs (negsuc-*ℤ-pos k n) ∙ nat_abs_neg (suc k * n)

-- n or its opposite
opposite : (n : ℕ) (c p : ℕ) → n ≡ c * p → neg_ℤ (pos n) ≡ neg_ℤ (pos c) *ℤ pos p
opposite n zero p e = ap (λ (x : ℕ). neg_ℤ (pos x)) e ∙ sym (pos-*ℤ-pos 0 p ∙ zeroes (0 * p) (omega arith))
  where
    zeroes : (x : ℕ) → x ≡ 0 → pos x ≡ neg_ℤ (pos x)
    zeroes x f = subst (λ (y : ℕ). pos y ≡ neg_ℤ (pos y)) (sym f) refl
opposite n (suc c) p e = ap (λ (x : ℕ). neg_ℤ (pos x)) e ∙ sym (negsuc-*ℤ-pos c p)

pub multiple_of : (f : Fraction) (v : ℤ) → (MultipleOf f v) ↔ (Multiple f (nat_abs v))
multiple_of f v = (
  λ m.
      subst (λ (x : ℕ). f.p ∣ x) (sym (times m.0 f.p) ∙ (sym (ap nat_abs m.1) ∙ times v f.q)) (dvd-mul_left f.p (nat_abs m.0)),
  back v,
)
  where
    back : (v : ℤ) → f.p ∣ nat_abs v * f.q → MultipleOf f v
    back (pos n) d = (pos (n * f.q / f.p), pos-*ℤ-pos n f.q ∙ (ap pos (sym (div-mul_cancel f.p d)) ∙ sym (pos-*ℤ-pos (n * f.q / f.p) f.p)))
    back (negsuc n) d =
        (neg_ℤ (pos (suc n * f.q / f.p)), negsuc-*ℤ-pos n f.q ∙ opposite (suc n * f.q) (suc n * f.q / f.p) f.p (sym (div-mul_cancel f.p d)))

pub admits_of : (ws : List Fraction) (v : ℤ) → (AllByRecursion (λ f. MultipleOf f v) ws) ↔ (Multiples ws (nat_abs v))
admits_of [] v = (λ a. a, λ a. a)
admits_of (w ∷ ws) v =
    let u = multiple_of w v in
    let k = admits_of ws v in
    (λ a. (u.0 a.0, k.0 a.1), λ a. (u.1 a.0, k.1 a.1))

pub spares_of : (ws : List Fraction) (v : ℤ) → (AllByRecursion (λ f. MultipleOf f v → ⊥) ws) ↔ (NoMultiples ws (nat_abs v))
spares_of [] v = (λ a. a, λ a. a)
spares_of (w ∷ ws) v =
    let u = multiple_of w v in
    let k = spares_of ws v in
    (λ a. (λ m. a.0 (u.1 m), k.0 a.1), λ a. (λ m. a.0 (u.0 m), k.1 a.1))
