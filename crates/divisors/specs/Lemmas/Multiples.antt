-- Multiples of p/q, found without the product: p divides n * q exactly when p in lowest terms divides n.
use Rattle.std.proofs.Common.{◌≡◌, ℕ, ◌*◌, ◌/◌, ◌%◌, ◌<◌, eqb, ◌↔◌, sym, ap, ◌∙◌, subst, ⊎_elim, mul_assoc}
use Prim.Native.Nat.{◌∣◌}
use native.Mathlib.Nat.{dvd-mul_right_of_dvd, dvd_of_mod-eq-zero, dvd_of_mul-dvd-mul_right, div-mul_cancel, mod-eq-zero_of_dvd, mul-dvd-mul_right}
use Rattle.std.proofs.lemmas.Bool.{cases_Bool, both_ways, eq-eqb, eqb-true}
use Rattle.divisors.specs.Whole.{gcd_of}
use Rattle.divisors.specs.Lemmas.Gcds.{gcd_is, gcd_pos, coprime_divides, parts_coprime}

-- equal tests of equivalent facts
same_test : (m k : ℕ) → (m ≡ 0 → k ≡ 0) → (k ≡ 0 → m ≡ 0) → eqb m 0 ≡ eqb k 0
same_test m k f g =
    ⊎_elim (λ t. t ∙ sym (eq-eqb k 0 (f (eqb-true m 0 t))))
    (λ n. n ∙ ⊎_elim (λ t. absurd (both_ways (eqb m 0) n (eq-eqb m 0 (g (eqb-true k 0 t))))) sym (cases_Bool (eqb k 0))) (cases_Bool (eqb m 0))

pub lowest_divides : (n p q : ℕ) → 0 < gcd_of p q → gcd_of (p / gcd_of p q) (q / gcd_of p q) ≡ 1 → (p / gcd_of p q ∣ n) ↔ (p ∣ n * q)
lowest_divides n p q h e =
    let g = gcd_of p q in
    let ep : p / g * g ≡ p = div-mul_cancel g (gcd_is p q).left in
    let eq : q / g * g ≡ q = div-mul_cancel g (gcd_is p q).right in
    let en : n * (q / g) * g ≡ n * q = mul_assoc n (q / g) g ∙ ap (λ (x : ℕ). n * x) eq in (
      λ d. subst (λ (x : ℕ). x ∣ n * q) ep (subst (λ (x : ℕ). p / g * g ∣ x) en (mul-dvd-mul_right (p / g) (dvd-mul_right_of_dvd (p / g) d (q / g)) g)),
      λ d.
          coprime_divides (p / g) (q / g) n e
          (dvd_of_mul-dvd-mul_right {k = g} (p / g) h (subst (λ (x : ℕ). p / g * g ∣ x) (sym en) (subst (λ (x : ℕ). x ∣ n * q) (sym ep) d))),
    )

pub lowest_test : (n p q : ℕ) → 0 < p → eqb (n % (p / gcd_of p q)) 0 ≡ eqb (n * q % p) 0
lowest_test n p q h =
    let t = lowest_divides n p q (gcd_pos p q h) (parts_coprime p q h) in
    same_test (n % (p / gcd_of p q)) (n * q % p)
    (λ e. mod-eq-zero_of_dvd p (t.0 (dvd_of_mod-eq-zero (p / gcd_of p q) e)))
    (λ e. mod-eq-zero_of_dvd (p / gcd_of p q) (t.1 (dvd_of_mod-eq-zero p e)))
