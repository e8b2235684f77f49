-- The laws of the greatest common divisor and the least common multiple.
use Rattle.std.proofs.Common.{◌≡◌, ℕ, zero, suc, ◌+◌, ◌*◌, ◌/◌, ◌%◌, ◌<◌, ◌≤◌, Bool, true, false, cond, leb, Some, None, sym, refl, ap, ◌∙◌, subst, not-suc-le-zero, mod-lt, zero-lt-suc, mul_assoc, mul_comm, add-mul, one-mul, zero-mul, mul-one, mul_right_comm, div-le_self, arith}
use Prim.Native.Nat.{◌∣◌}
use native.Mathlib.Nat.{dvd_refl, dvd-zero, dvd-add_iff_left, dvd-mod_iff, dvd_antisymm, dvd-mul_left, dvd-mul_right, dvd-mul_right_of_dvd, mod-add-div, zero-div, mul-dvd-mul_left, mul-dvd-mul_right, dvd_of_mul-dvd-mul_left, pos_of_dvd_of_pos, div-mul_cancel, mul-div_cancel', dvd_of_mul-dvd-mul_right, eq-one_of_dvd-one}
use Rattle.std.proofs.lemmas.Bool.{cond-true, cond-false, le-leb, lt-leb}
use Rattle.std.specs.Bool.{then_some}
use Rattle.divisors.specs.Joining.{fitting}
use Rattle.divisors.specs.Whole.{IsGcd, IsLcm, gcd_in, gcd_of, lcm_of}

-- a common divisor of a * c and b * c divides gcd * c: with c = 1 the greatest, with gcd = 1 Euclid's lemma
gcd_in_mul : (k a b : ℕ) → b < k → (c d : ℕ) → d ∣ a * c → d ∣ b * c → d ∣ gcd_in k a b * c
unfolding gcd_in
gcd_in_mul zero a b h c d u v = absurd (not-suc-le-zero h)
gcd_in_mul (suc k) a zero h c d u v = u
gcd_in_mul (suc k) a (suc b) h c d u v =
    let less : a % suc b < suc b = mod-lt a (zero-lt-suc b) in
    let lt : a % suc b < k = omega arith in
    let q : d ∣ suc b * (a / suc b) * c = rw mul_right_comm (dvd-mul_right_of_dvd d v (a / suc b)) in
    let e : a * c ≡ (a % suc b) * c + suc b * (a / suc b) * c = ap (λ (x : ℕ). x * c) (sym (mod-add-div a (suc b))) ∙ add-mul (a % suc b) (suc b * (a / suc b)) c in
    let w : d ∣ (a % suc b) * c = (dvd-add_iff_left d {m = (a % suc b) * c} {n = suc b * (a / suc b) * c} q).1 (rw e at u) in
    gcd_in_mul k (suc b) (a % suc b) lt c d v w

gcd_in_divides : (k a b : ℕ) → b < k → (gcd_in k a b ∣ a) × (gcd_in k a b ∣ b)
unfolding gcd_in
gcd_in_divides zero a b h = absurd (not-suc-le-zero h)
gcd_in_divides (suc k) a zero h = (dvd_refl a, dvd-zero a)
gcd_in_divides (suc k) a (suc b) h =
    let less : a % suc b < suc b = mod-lt a (zero-lt-suc b) in
    let lt : a % suc b < k = omega arith in
    let ih = gcd_in_divides k (suc b) (a % suc b) lt in
    ((dvd-mod_iff (gcd_in k (suc b) (a % suc b)) {m = a} {n = suc b} ih.0).0 ih.1, ih.0)

pub gcd_mul : (a b c d : ℕ) → d ∣ a * c → d ∣ b * c → d ∣ gcd_of a b * c
unfolding gcd_of
gcd_mul a b c d u v = gcd_in_mul (suc b) a b (omega arith) c d u v

pub gcd_is : (a b : ℕ) → IsGcd a b (gcd_of a b)
unfolding gcd_of
gcd_is a b =
    let both = gcd_in_divides (suc b) a b (omega arith) in
    record {
      left = both.0;
      right = both.1;
      greatest = λ d u v. rw mul-one at (gcd_mul a b 1 d (rw mul-one u) (rw mul-one v));
    }

pub gcd_unique : (a b g h : ℕ) → IsGcd a b g → IsGcd a b h → g ≡ h
gcd_unique a b g h u v = dvd_antisymm (v.greatest g u.left u.right) (u.greatest h v.left v.right)

pub gcd_step : (a b : ℕ) → 0 < b → gcd_of b (a % b) ≡ gcd_of a b
gcd_step a b h =
    let u = gcd_is b (a % b) in
    let g = gcd_of b (a % b) in
    gcd_unique a b g (gcd_of a b)
    (record {
      left = (dvd-mod_iff g {m = a} {n = b} u.left).0 u.right;
      right = u.left;
      greatest = λ d x y. u.greatest d y ((dvd-mod_iff d {m = a} {n = b} y).1 x);
    })
    (gcd_is a b)

pub gcd_zero : (a : ℕ) → gcd_of a 0 ≡ a
unfolding gcd_of gcd_in
gcd_zero a = refl

pub gcd_one : (a : ℕ) → gcd_of a 1 ≡ 1
gcd_one a = eq-one_of_dvd-one (gcd_is a 1).right

pub gcd_comm : (a b : ℕ) → gcd_of a b ≡ gcd_of b a
gcd_comm a b =
    let u = gcd_is a b in
    gcd_unique b a (gcd_of a b) (gcd_of b a) (record { left = u.right; right = u.left; greatest = λ d x y. u.greatest d y x }) (gcd_is b a)

pub gcd_pos : (a b : ℕ) → 0 < a → 0 < gcd_of a b
gcd_pos a b h = pos_of_dvd_of_pos (gcd_is a b).left h

-- Euclid's lemma
pub coprime_divides : (p q v : ℕ) → gcd_of p q ≡ 1 → p ∣ v * q → p ∣ v
coprime_divides p q v e h =
    let w : p ∣ gcd_of p q * v = gcd_mul p q v p (dvd-mul_right p v) (rw (mul_comm q v) h) in
    rw (e, one-mul) at w

-- the least common multiple
lcm_pos_is : (a b : ℕ) → 0 < a → IsLcm a b (lcm_of a b)
unfolding lcm_of
lcm_pos_is a b h =
    let g = gcd_of a b in
    let u = gcd_is a b in
    let gp : 0 < g = gcd_pos a b h in
    let ea : a / g * g ≡ a = div-mul_cancel g u.left in
    let eb : b / g * g ≡ b = div-mul_cancel g u.right in
    let split : a / g * b ≡ a * (b / g) =
    ap (λ (x : ℕ). a / g * x) (sym eb ∙ mul_comm (b / g) g) ∙ sym (mul_assoc (a / g) g (b / g)) ∙ ap (λ (x : ℕ). x * (b / g)) ea in
    let whole : a * b ≡ g * (a / g * b) =
    ap (λ (x : ℕ). x * b) (sym ea ∙ mul_comm (a / g) g) ∙ mul_assoc g (a / g) b in
    record {
      left = rw split (dvd-mul_right a (b / g));
      right = dvd-mul_left b (a / g);
      least =
          λ m x y.
          let ab : a * b ∣ a * m = mul-dvd-mul_left b a y in
          let ba : a * b ∣ b * m = rw (mul_comm b m) (mul-dvd-mul_right a x b) in
          let w : a * b ∣ g * m = gcd_mul a b m (a * b) ab ba in
          dvd_of_mul-dvd-mul_left {k = g} (a / g * b) gp (rw whole at w);
    }

pub lcm_zero : (b : ℕ) → lcm_of 0 b ≡ 0
unfolding lcm_of
lcm_zero b = rw (zero-div, zero-mul)

pub lcm_is : (a b : ℕ) → IsLcm a b (lcm_of a b)
lcm_is zero b = subst (λ (l : ℕ). IsLcm 0 b l) (sym (lcm_zero b)) (record { left = dvd_refl 0; right = dvd-zero b; least = λ m x _. x })
lcm_is (suc a) b = lcm_pos_is (suc a) b (zero-lt-suc a)

pub fits : (n l : ℕ) → l ≡ n → l ≤ 9223372036854775807 → Some l ≡ fitting n
fits n l e h = ap (λ (x : ℕ). Some x) e ∙ sym (cond-true (leb n 9223372036854775807) (Some n) None (le-leb n 9223372036854775807 (omega arith)))

pub fits_not : (n : ℕ) → 9223372036854775807 < n → None ≡ fitting n
fits_not n h = sym (cond-false (leb n 9223372036854775807) (Some n) None (lt-leb n 9223372036854775807 h))

-- what is left after the gcd is divided out has no common divisor
pub parts_coprime : (p q : ℕ) → 0 < p → gcd_of (p / gcd_of p q) (q / gcd_of p q) ≡ 1
parts_coprime p q h =
    let g = gcd_of p q in
    let gp : 0 < g = gcd_pos p q h in
    let d = gcd_of (p / g) (q / g) in
    let u : d * g ∣ p = subst (λ (x : ℕ). d * g ∣ x) (div-mul_cancel g (gcd_is p q).left) (mul-dvd-mul_right d (gcd_is (p / g) (q / g)).left g) in
    let w : d * g ∣ q = subst (λ (x : ℕ). d * g ∣ x) (div-mul_cancel g (gcd_is p q).right) (mul-dvd-mul_right d (gcd_is (p / g) (q / g)).right g) in
    let k : d * g ∣ 1 * g = subst (λ (x : ℕ). d * g ∣ x) (let e : g ≡ 1 * g = omega arith in e) ((gcd_is p q).greatest (d * g) u w) in
    eq-one_of_dvd-one (dvd_of_mul-dvd-mul_right {k = g} d gp k)

-- parts divided by the same number are of the same size
pub quotients_cross : (p q g : ℕ) → g ∣ p → g ∣ q → p / g * q ≡ p * (q / g)
quotients_cross p q g h i =
    ap (λ (x : ℕ). p / g * x) (sym (div-mul_cancel g i) ∙ mul_comm (q / g) g) ∙ sym (mul_assoc (p / g) g (q / g)) ∙
    ap (λ (x : ℕ). x * (q / g)) (div-mul_cancel g h)

pub quotient_pos : (p g : ℕ) → 0 < p → g ∣ p → 0 < p / g
quotient_pos p g h d = pos_of_dvd_of_pos (subst (λ (x : ℕ). p / g ∣ x) (mul-div_cancel' g d) (dvd-mul_left (p / g) g)) h

pub pos_of_quotient : (p g : ℕ) → 0 < p / g → 0 < p
pos_of_quotient p g h = omega (arith, div-le_self p g)

then_is : (b : Bool) (n : ℕ) → then_some b n ≡ cond b (Some n) None
then_is true n = refl
then_is false n = refl

pub capped : (n l : ℕ) → l ≡ n → then_some (leb l 9223372036854775807) l ≡ fitting n
capped n l e = ap (λ (x : ℕ). then_some (leb x 9223372036854775807) x) e ∙ then_is (leb n 9223372036854775807) n
