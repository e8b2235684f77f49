-- One divisor divides another: the test, and its laws.
use Rattle.std.proofs.Common.{◌≡◌, ℕ, ◌*◌, ◌/◌, ◌%◌, ◌<◌, ◌≤◌, true, ◌&&◌, eqb, ltb, leb, Some, None, Decides, sym, ap, ◌∙◌, subst, mul_assoc, mul_comm, mul-pos, arith}
use Rattle.std.proofs.Math.Nat.{mul-div_cancel, mul-mul-mul_comm}
use Prim.Native.Nat.{◌∣◌}
use native.Mathlib.Nat.{dvd_refl, dvd_trans, dvd_antisymm, dvd-mul_left, dvd-mul_right, mul-dvd-mul, mod-eq-zero_of_dvd, dvd_of_mod-eq-zero, le_of_dvd, div-mul_cancel}
use Rattle.std.proofs.lemmas.Bool.{and_parts, and_from, lt-ltb, ltb-true, eqb-true, eq-eqb, le-leb, cond-true}
use Rattle.divisors.specs.declared.fraction.Fraction.{Fraction}
use Rattle.divisors.specs.Fractions.{Multiple, Reduced, reduce_of}
use Rattle.divisors.specs.Dividing.{Divides, divides}
use Rattle.divisors.specs.Joining.{join_of}
use Rattle.divisors.specs.Whole.{gcd_of, lcm_of}
use Rattle.divisors.specs.Lemmas.Gcds.{coprime_divides, gcd_comm, gcd_is, gcd_pos, lcm_is, parts_coprime, pos_of_quotient, quotient_pos}
use Rattle.divisors.specs.Lemmas.Joins.{whole_multiple}
use Rattle.divisors.specs.Lemmas.Firsts.{clash}

pub divides_parts : (a b : Fraction) → divides a b ≡ true → (a.p ∣ b.p) × (b.q ∣ a.q)
divides_parts a b h =
    let u = and_parts (ltb 0 a.p) (ltb 0 b.q && (eqb (b.p % a.p) 0 && eqb (a.q % b.q) 0)) h in
    let w = and_parts (ltb 0 b.q) (eqb (b.p % a.p) 0 && eqb (a.q % b.q) 0) u.1 in
    let x = and_parts (eqb (b.p % a.p) 0) (eqb (a.q % b.q) 0) w.1 in
    (dvd_of_mod-eq-zero a.p (eqb-true (b.p % a.p) 0 x.0), dvd_of_mod-eq-zero b.q (eqb-true (a.q % b.q) 0 x.1))

pub divides_low : (a b : Fraction) → divides a b ≡ true → (0 < a.p) × (0 < b.q)
divides_low a b h =
    let u = and_parts (ltb 0 a.p) (ltb 0 b.q && (eqb (b.p % a.p) 0 && eqb (a.q % b.q) 0)) h in
    (ltb-true 0 a.p u.0, ltb-true 0 b.q (and_parts (ltb 0 b.q) (eqb (b.p % a.p) 0 && eqb (a.q % b.q) 0) u.1).0)

pub parts_divides : (a b : Fraction) → 0 < a.p → 0 < b.q → a.p ∣ b.p → b.q ∣ a.q → divides a b ≡ true
parts_divides a b r s h i =
    and_from (ltb 0 a.p) (ltb 0 b.q && (eqb (b.p % a.p) 0 && eqb (a.q % b.q) 0)) (lt-ltb 0 a.p r)
    (and_from (ltb 0 b.q) (eqb (b.p % a.p) 0 && eqb (a.q % b.q) 0) (lt-ltb 0 b.q s)
    (and_from (eqb (b.p % a.p) 0) (eqb (a.q % b.q) 0) (eq-eqb (b.p % a.p) 0 (mod-eq-zero_of_dvd a.p h)) (eq-eqb (a.q % b.q) 0 (mod-eq-zero_of_dvd b.q i))))

-- of parts in lowest terms, the test, which takes no product, says that the other is a whole multiple
pub divides_when : (a b : Fraction) → gcd_of a.p a.q ≡ 1 → gcd_of b.q b.p ≡ 1 → Decides (divides a b) (Divides a b)
divides_when a b r s = (
  λ h.
      let u = divides_parts a b h in
      let l = divides_low a b h in
      record { low = l.0; other_low = l.1; times = b.p * a.q / (a.p * b.q); whole = sym (div-mul_cancel (a.p * b.q) (mul-dvd-mul a.p b.q u.0 u.1)) },
  λ w.
      let d : a.p * b.q ∣ b.p * a.q = subst (λ (x : ℕ). a.p * b.q ∣ x) (sym w.whole) (dvd-mul_left (a.p * b.q) w.times) in
      parts_divides a b w.low w.other_low
      (coprime_divides a.p a.q b.p r (dvd_trans a.p (dvd-mul_right a.p b.q) d))
      (coprime_divides b.q b.p a.q s (subst (λ (x : ℕ). b.q ∣ x) (mul_comm b.p a.q) (dvd_trans b.q (dvd-mul_left b.q a.p) d))),
)

pub divides_is : (a b : Fraction) → Reduced a → Reduced b → Decides (divides a b) (Divides a b)
divides_is a b r s = divides_when a b r.coprime (gcd_comm b.q b.p ∙ s.coprime)

pub divides_refl : (a : Fraction) → Reduced a → divides a a ≡ true
divides_refl a r = parts_divides a a r.p_low r.q_low (dvd_refl a.p) (dvd_refl a.q)

pub divides_trans : (a b c : Fraction) → Reduced a → Reduced c → divides a b ≡ true → divides b c ≡ true → divides a c ≡ true
divides_trans a b c r t h i =
    let u = divides_parts a b h in
    let w = divides_parts b c i in
    parts_divides a c r.p_low t.q_low (dvd_trans a.p u.0 w.0) (dvd_trans c.q w.1 u.1)

pub divides_anti : (a b : Fraction) → divides a b ≡ true → divides b a ≡ true → a ≡ b
divides_anti a b h i =
    let u = divides_parts a b h in
    let w = divides_parts b a i in
    let p : a.p ≡ b.p = dvd_antisymm u.0 w.0 in
    let q : a.q ≡ b.q = dvd_antisymm w.1 u.1 in
    λ k. record { p = p k; q = q k }

-- a multiple of what a divisor divides is a multiple of the divisor
pub divides_multiple : (a b : Fraction) (v : ℕ) → Reduced a → Reduced b → divides a b ≡ true → Multiple b v → Multiple a v
divides_multiple a b v r s h m = (whole_multiple a v r).1 (dvd_trans a.p (divides_parts a b h).0 ((whole_multiple b v s).0 m))

-- where one numerator divides the other, the two have a join
pub has_join : (a b : Fraction) → Reduced a → Reduced b → lcm_of a.p b.p ≤ 9223372036854775807 → join_of a b ≡ None → ⊥
has_join a b r s l e =
    clash (join_of a b) (record { p = lcm_of a.p b.p; q = gcd_of a.q b.q }) e
    (cond-true (leb (lcm_of a.p b.p) 9223372036854775807) (Some (record { p = lcm_of a.p b.p; q = gcd_of a.q b.q })) None (le-leb (lcm_of a.p b.p) 9223372036854775807 l))

pub join_right : (a b : Fraction) → Reduced a → Reduced b → a.p ∣ b.p → join_of a b ≡ None → ⊥
join_right a b r s h =
    let l : lcm_of a.p b.p ≤ b.p = le_of_dvd s.p_low ((lcm_is a.p b.p).least b.p h (dvd_refl b.p)) in
    has_join a b r s (omega (arith, s.p_high))

pub join_left : (a b : Fraction) → Reduced a → Reduced b → a.p ∣ b.p → join_of b a ≡ None → ⊥
join_left a b r s h =
    let l : lcm_of b.p a.p ≤ b.p = le_of_dvd s.p_low ((lcm_is b.p a.p).least b.p (dvd_refl b.p) h) in
    has_join b a s r (omega (arith, s.p_high))

-- a whole multiple, with parts times g and times h
scaled : (p q r s g h k : ℕ) → r * q ≡ k * (p * s) → r * h * (q * g) ≡ k * (p * g * (s * h))
scaled p q r s g h k e =
    mul-mul-mul_comm r h q g ∙ ap (λ (x : ℕ). x * (h * g)) e ∙ mul_assoc k (p * s) (h * g) ∙
    ap (λ (x : ℕ). k * x) (ap (λ (x : ℕ). p * s * x) (mul_comm h g) ∙ mul-mul-mul_comm p s g h)

unscaled : (p q r s g h k : ℕ) → 0 < g → 0 < h → r * h * (q * g) ≡ k * (p * g * (s * h)) → r * q ≡ k * (p * s)
unscaled p q r s g h k a b e =
    let turn : p * g * (s * h) ≡ p * s * (h * g) = mul-mul-mul_comm p g s h ∙ ap (λ (x : ℕ). p * s * x) (mul_comm g h) in
    let both : r * q * (h * g) ≡ k * (p * s) * (h * g) = sym (mul-mul-mul_comm r h q g) ∙ (e ∙ (ap (λ (x : ℕ). k * x) turn ∙ sym (mul_assoc k (p * s) (h * g)))) in
    sym (mul-div_cancel (r * q) (mul-pos b a)) ∙ (ap (λ (x : ℕ). x / (h * g)) both ∙ mul-div_cancel (k * (p * s)) (mul-pos b a))

-- one fraction divides another exactly if it does in lowest terms
pub divides_lowest : (a b : Fraction) → Decides (divides (reduce_of a) (reduce_of b)) (Divides a b)
divides_lowest a b = (forth, back)
  where
    g : ℕ
    g = gcd_of a.p a.q

    h : ℕ
    h = gcd_of b.p b.q

    ap_is : a.p / g * g ≡ a.p
    ap_is = div-mul_cancel g (gcd_is a.p a.q).left

    aq_is : a.q / g * g ≡ a.q
    aq_is = div-mul_cancel g (gcd_is a.p a.q).right

    bp_is : b.p / h * h ≡ b.p
    bp_is = div-mul_cancel h (gcd_is b.p b.q).left

    bq_is : b.q / h * h ≡ b.q
    bq_is = div-mul_cancel h (gcd_is b.p b.q).right

    lowest : 0 < a.p → 0 < b.q → Decides (divides (reduce_of a) (reduce_of b)) (Divides (reduce_of a) (reduce_of b))
    lowest l m =
        divides_when (reduce_of a) (reduce_of b) (parts_coprime a.p a.q l)
        (ap (λ (x : ℕ). gcd_of (b.q / x) (b.p / x)) (gcd_comm b.p b.q) ∙ parts_coprime b.q b.p m)

    whole : (k : ℕ) → ◌≡◌ {A = ℕ} (b.p / h * h * (a.q / g * g)) (k * (a.p / g * g * (b.q / h * h))) ≡ ◌≡◌ {A = ℕ} (b.p * a.q) (k * (a.p * b.q))
    whole k i = ◌≡◌ {A = ℕ} (bp_is i * aq_is i) (k * (ap_is i * bq_is i))

    forth : divides (reduce_of a) (reduce_of b) ≡ true → Divides a b
    forth e =
        let l = divides_low (reduce_of a) (reduce_of b) e in
        let la : 0 < a.p = pos_of_quotient a.p g l.0 in
        let lb : 0 < b.q = pos_of_quotient b.q h l.1 in
        let d = (lowest la lb).0 e in
        record {
          low = la;
          other_low = lb;
          times = d.times;
          whole = subst (λ (X : Type 0). X) (whole d.times) (scaled (a.p / g) (a.q / g) (b.p / h) (b.q / h) g h d.times d.whole);
        }

    back : Divides a b → divides (reduce_of a) (reduce_of b) ≡ true
    back d =
        let gp : 0 < g = gcd_pos a.p a.q d.low in
        let hp : 0 < h = subst (λ (x : ℕ). 0 < x) (gcd_comm b.q b.p) (gcd_pos b.q b.p d.other_low) in
        (lowest d.low d.other_low).1
        (record {
          low = quotient_pos a.p g d.low (gcd_is a.p a.q).left;
          other_low = quotient_pos b.q h d.other_low (gcd_is b.p b.q).right;
          times = d.times;
          whole = unscaled (a.p / g) (a.q / g) (b.p / h) (b.q / h) g h d.times gp hp (subst (λ (X : Type 0). X) (sym (whole d.times)) d.whole);
        })
