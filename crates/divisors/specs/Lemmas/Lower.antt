-- Reduced fractions by size: a strict total order.
use Rattle.std.proofs.Common.{◌≡◌, ℕ, ◌*◌, ◌<◌, ◌≤◌, true, false, sym, ◌∙◌, subst, mul_comm, lt_of_mul-lt-mul_right, mul-lt-mul_of_pos_right, arith}
use Prim.Native.Nat.{◌∣◌}
use native.Mathlib.Nat.{dvd_antisymm, dvd-mul_left, dvd-mul_right}
use Rattle.std.proofs.lemmas.Bool.{ltb-true, ltb-false, lt-ltb}
use Rattle.divisors.specs.declared.fraction.Fraction.{Fraction}
use Rattle.divisors.specs.Fractions.{Reduced, lower}
use Rattle.divisors.specs.Lemmas.Gcds.{gcd_comm, coprime_divides}

pub lower_less : (a b : Fraction) → lower a b ≡ true → a.p * b.q < b.p * a.q
lower_less a b h = ltb-true (a.p * b.q) (b.p * a.q) h

pub lower_irr : (a : Fraction) → lower a a ≡ true → ⊥
lower_irr a h = omega (arith, lower_less a a h)

pub lower_asym : (a b : Fraction) → lower a b ≡ true → lower b a ≡ true → ⊥
lower_asym a b h i = omega (arith, lower_less a b h, lower_less b a i)

-- equal by size, equal in both parts
pub same_size : (a b : Fraction) → Reduced a → Reduced b → a.p * b.q ≡ b.p * a.q → a ≡ b
same_size a b r s e =
    let p : a.p ≡ b.p =
    dvd_antisymm
    (coprime_divides a.p a.q b.p r.coprime (subst (λ (x : ℕ). a.p ∣ x) e (dvd-mul_right a.p b.q)))
    (coprime_divides b.p b.q a.p s.coprime (subst (λ (x : ℕ). b.p ∣ x) (sym e) (dvd-mul_right b.p a.q))) in
    let q : a.q ≡ b.q =
    dvd_antisymm
    (coprime_divides a.q a.p b.q (gcd_comm a.q a.p ∙ r.coprime) (subst (λ (x : ℕ). a.q ∣ x) (sym e ∙ mul_comm a.p b.q) (dvd-mul_left a.q b.p)))
    (coprime_divides b.q b.p a.q (gcd_comm b.q b.p ∙ s.coprime) (subst (λ (x : ℕ). b.q ∣ x) (e ∙ mul_comm b.p a.q) (dvd-mul_left b.q a.p))) in
    λ i. record { p = p i; q = q i }

not_lower : (a b : Fraction) → lower a b ≡ false → b.p * a.q ≤ a.p * b.q
not_lower a b h = ltb-false (a.p * b.q) (b.p * a.q) h

pub lower_tie : (a b : Fraction) → Reduced a → Reduced b → lower a b ≡ false → lower b a ≡ false → a ≡ b
lower_tie a b r s h i = same_size a b r s (omega (arith, not_lower a b h, not_lower b a i))

pub lower_trans : (a b c : Fraction) → Reduced a → Reduced b → Reduced c → lower a b ≡ true → lower b c ≡ true → lower a c ≡ true
lower_trans a b c r s t h i =
    let u : a.p * b.q * c.q < b.p * a.q * c.q = mul-lt-mul_of_pos_right (lower_less a b h) t.q_low in
    let w : b.p * c.q * a.q < c.p * b.q * a.q = mul-lt-mul_of_pos_right (lower_less b c i) r.q_low in
    lt-ltb (a.p * c.q) (c.p * a.q) (lt_of_mul-lt-mul_right b.q {m = a.p * c.q} {n = c.p * a.q} (omega arith))
