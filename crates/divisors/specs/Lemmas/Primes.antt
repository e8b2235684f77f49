-- Primes, and the part that one number shares with another.
use Rattle.std.proofs.Common.{◌≡◌, ℕ, zero, suc, ◌+◌, ◌-◌, ◌*◌, ◌/◌, ◌%◌, ◌<◌, ◌≤◌, Bool, true, false, not, ◌||◌, eqb, ◌⊎◌, Some, None, sym, refl, ap, ◌∙◌, subst, inl, inr, ⊎_elim, mul_assoc, mul_comm, one-mul, mul-div_cancel, arith}
use Prim.Native.Nat.{◌∣◌}
use native.Mathlib.Nat.{dvd_refl, dvd_trans, dvd-mul_left, dvd-mul_right, mul-dvd-mul_left, mul-dvd-mul_right, pos_of_dvd_of_pos, le_of_dvd, eq-one_of_dvd-one, mul-div_cancel', div-lt_self}
use native.Mathlib.Decide.{dec_dvd}
use Rattle.std.proofs.lemmas.Bool.{cond-true, cond-false, or_left, or_right, or_from, not_from_true, not_from_false, eqb-true, eqb-false, eq-eqb, ne_eqb, cases_eq, cases_lt}
use Rattle.divisors.specs.Shared.{BuiltFrom, IsShared, Prime, rest_in, rest_of, shared_of, strip_of}
use Rattle.divisors.specs.Whole.{gcd_of}
use Rattle.divisors.specs.Lemmas.Gcds.{gcd_is, gcd_mul, gcd_pos, coprime_divides}

-- p divides n, and no smaller number above 1 does
record Least (n p : ℕ) : Type 0 where
  more : 1 < p
  divides : p ∣ n
  below : (e : ℕ) → 1 < e → e < p → e ∣ n → ⊥

least : (k d n : ℕ) → d + k ≡ n → 1 < d → ((e : ℕ) → 1 < e → e < d → e ∣ n → ⊥) → (p : ℕ) × Least n p
least zero d n s m none =
    let here : d ≡ n = omega arith in
    (d, record { more = m; divides = subst (λ (x : ℕ). d ∣ x) here (dvd_refl d); below = none })
least (suc k) d n s m none =
    elim (dec_dvd d n) [
      | yes h ↦ (d, record { more = m; divides = h; below = none })
      | no f ↦
          least k (suc d) n (omega arith) (omega arith)
          (λ e a b h. ⊎_elim (λ l. none e a l h) (λ g. f (subst (λ (x : ℕ). x ∣ n) (let q : e ≡ d = omega arith in q) h)) (cases_lt e d))
    ]

least_prime : (n p : ℕ) → Least n p → Prime p
least_prime n p l =
    record {
      more = l.more;
      only =
          λ d g.
          let pos : 0 < p = omega (arith, l.more) in
          let dp : 0 < d = pos_of_dvd_of_pos g pos in
          let dl : d ≤ p = le_of_dvd pos g in
          ⊎_elim inl
          (λ ne. ⊎_elim inr (λ np. absurd (l.below d (omega arith) (omega arith) (dvd_trans d g l.divides))) (cases_eq d p)) (cases_eq d 1);
    }

pub prime_factor : (n : ℕ) → 1 < n → (p : ℕ) × Prime p × (p ∣ n)
prime_factor n h =
    let f = least (n - 2) 2 n (omega arith) (omega arith) (λ e a b _. omega arith) in
    (f.0, least_prime n f.0 f.1, f.1.divides)

-- a prime that divides a product divides a factor
pub prime_divides : (p x y : ℕ) → Prime p → p ∣ x * y → (p ∣ x) ⊎ (p ∣ y)
prime_divides p x y P h =
    elim (dec_dvd p y) [
      | yes d ↦ inr d
      | no f ↦
          ⊎_elim (λ e. inl (coprime_divides p y x e h)) (λ e. absurd (f (subst (λ (z : ℕ). z ∣ y) e (gcd_is p y).right))) (P.only (gcd_of p y) (gcd_is p y).left)
    ]

no_prime_one : (p : ℕ) → Prime p → p ∣ 1 → ⊥
no_prime_one p P h = let e : p ≡ 1 = eq-one_of_dvd-one h in omega (arith, P.more)

-- what is left of a, and what was divided out
pub record Parts (a b s r : ℕ) : Type 0 where
  pub product : a ≡ s * r
  pub built : BuiltFrom b s
  pub apart : gcd_of r b ≡ 1

-- one step: the gcd is divided out
more_parts : (a b s r : ℕ) → 0 < a → Parts (a / gcd_of a b) b s r → Parts a b (gcd_of a b * s) r
more_parts a b s r h t =
    let g = gcd_of a b in
    record {
      product = sym (mul-div_cancel' g (gcd_is a b).left) ∙ ap (λ (x : ℕ). g * x) t.product ∙ sym (mul_assoc g s r);
      built = λ p P d. ⊎_elim (λ k. dvd_trans p k (gcd_is a b).right) (λ k. t.built p P k) (prime_divides p g s P d);
      apart = t.apart;
    }

no_parts : (a b : ℕ) → gcd_of a b ≡ 1 → Parts a b 1 a
no_parts a b e = record { product = sym (one-mul a); built = λ p P d. absurd (no_prime_one p P d); apart = e }

step_less : (a b : ℕ) → 0 < a → (gcd_of a b ≡ 1 → ⊥) → (0 < a / gcd_of a b) × (a / gcd_of a b < a)
step_less a b h ne =
    let g : 0 < gcd_of a b = gcd_pos a b h in
    let e : gcd_of a b * (a / gcd_of a b) ≡ a = mul-div_cancel' (gcd_of a b) (gcd_is a b).left in
    (pos_of_dvd_of_pos (subst (λ (x : ℕ). a / gcd_of a b ∣ x) e (dvd-mul_left (a / gcd_of a b) (gcd_of a b))) h, div-lt_self h (omega arith))

rest_parts : (k a b : ℕ) → 0 < a → a ≤ k → (s : ℕ) × Parts a b s (rest_in k a b)
unfolding rest_in
rest_parts zero a b h l = absurd (omega arith)
rest_parts (suc k) a b h l = go (eqb (gcd_of a b) 1) refl (rest_parts k (a / gcd_of a b) b)
  where
    go :
        (t : Bool) → eqb (gcd_of a b) 1 ≡ t →
        (0 < a / gcd_of a b → a / gcd_of a b ≤ k → (s : ℕ) × Parts (a / gcd_of a b) b s (rest_in k (a / gcd_of a b) b)) →
        (s : ℕ) × Parts a b s (elim t [ true ↦ a | false ↦ rest_in k (a / gcd_of a b) b ])
    go true e ih = (1, no_parts a b (eqb-true (gcd_of a b) 1 e))
    go false e ih =
        let w = step_less a b h (eqb-false (gcd_of a b) 1 e) in
        let t = ih w.0 (omega (arith, w.1)) in
        (gcd_of a b * t.0, more_parts a b t.0 (rest_in k (a / gcd_of a b) b) h t.1)

-- steps enough are as good as more
rest_fuel : (k j a b : ℕ) → 0 < a → a ≤ k → a ≤ j → rest_in k a b ≡ rest_in j a b
unfolding rest_in
rest_fuel zero j a b h l m = absurd (omega arith)
rest_fuel (suc k) zero a b h l m = absurd (omega arith)
rest_fuel (suc k) (suc j) a b h l m = go (eqb (gcd_of a b) 1) refl (rest_fuel k j (a / gcd_of a b) b)
  where
    go :
        (t : Bool) → eqb (gcd_of a b) 1 ≡ t →
        (0 < a / gcd_of a b → a / gcd_of a b ≤ k → a / gcd_of a b ≤ j → rest_in k (a / gcd_of a b) b ≡ rest_in j (a / gcd_of a b) b) →
        ◌≡◌ {A = ℕ} (elim t [ true ↦ a | false ↦ rest_in k (a / gcd_of a b) b ]) (elim t [ true ↦ a | false ↦ rest_in j (a / gcd_of a b) b ])
    go true e ih = refl
    go false e ih =
        let w = step_less a b h (eqb-false (gcd_of a b) 1 e) in
        ih w.0 (omega (arith, w.1)) (omega (arith, w.1))

pub rest_end : (a b : ℕ) → 0 < a → gcd_of a b ≡ 1 → a ≡ rest_of a b
unfolding rest_of rest_in
rest_end zero b h e = absurd (omega arith)
rest_end (suc a) b h e = ap (λ (t : Bool). elim t [ true ↦ suc a | false ↦ rest_in a (suc a / gcd_of (suc a) b) b ]) (sym (eq-eqb (gcd_of (suc a) b) 1 e))

pub rest_more : (a b : ℕ) → 0 < a → (gcd_of a b ≡ 1 → ⊥) → rest_of (a / gcd_of a b) b ≡ rest_of a b
unfolding rest_of rest_in
rest_more zero b h e = absurd (omega arith)
rest_more (suc a) b h e =
    let w = step_less (suc a) b h e in
    rest_fuel (suc a / gcd_of (suc a) b) a (suc a / gcd_of (suc a) b) b w.0 (omega arith) (omega (arith, w.1)) ∙
    ap (λ (t : Bool). elim t [ true ↦ suc a | false ↦ rest_in a (suc a / gcd_of (suc a) b) b ]) (sym (ne_eqb (gcd_of (suc a) b) 1 e))

pub rest_less : (a b : ℕ) → 0 < a → (gcd_of a b ≡ 1 → ⊥) → (0 < a / gcd_of a b) × (a / gcd_of a b < a)
rest_less = step_less

-- whatever is built from primes of b is apart from what is left
apart_built : (b d r : ℕ) → 0 < d → BuiltFrom b d → gcd_of r b ≡ 1 → gcd_of d r ≡ 1
apart_built b d r h t e =
    ⊎_elim (λ k. k)
    (λ ne.
    let pos : 0 < gcd_of d r = gcd_pos d r h in
    let f = prime_factor (gcd_of d r) (omega arith) in
    let x : f.0 ∣ d = dvd_trans f.0 f.2 (gcd_is d r).left in
    let y : f.0 ∣ r = dvd_trans f.0 f.2 (gcd_is d r).right in
    absurd (no_prime_one f.0 f.1 (subst (λ (z : ℕ). f.0 ∣ z) e ((gcd_is r b).greatest f.0 y (t f.0 f.1 x)))))
    (cases_eq (gcd_of d r) 1)

pub rest_is : (a b : ℕ) → 0 < a → Parts a b (shared_of a b) (rest_of a b)
unfolding shared_of rest_of
rest_is a b h =
    let t = rest_parts a a b h (omega arith) in
    let r = rest_in a a b in
    let pos : 0 < r = pos_of_dvd_of_pos (subst (λ (x : ℕ). r ∣ x) (sym t.1.product) (dvd-mul_left r t.0)) h in
    let e : a / r ≡ t.0 = ap (λ (x : ℕ). x / r) t.1.product ∙ mul-div_cancel t.0 pos in
    subst (λ (s : ℕ). Parts a b s r) (sym e) t.1

pub shared_is : (a b : ℕ) → 0 < a → IsShared a b (shared_of a b)
shared_is a b h =
    let t = rest_is a b h in
    let s = shared_of a b in
    let divides : s ∣ a = subst (λ (x : ℕ). s ∣ x) (sym t.product) (dvd-mul_right s (rest_of a b)) in
    record {
      divides = divides;
      built = t.built;
      largest =
          λ d x y.
          le_of_dvd (pos_of_dvd_of_pos divides h)
          (coprime_divides d (rest_of a b) s (apart_built b d (rest_of a b) (pos_of_dvd_of_pos x h) y t.apart) (subst (λ (z : ℕ). d ∣ z) t.product x));
    }

-- two numbers that are apart and divide v: so does their product
pub coprime_product : (s r v : ℕ) → gcd_of s r ≡ 1 → s ∣ v → r ∣ v → s * r ∣ v
coprime_product s r v e x y =
    let u : s * r ∣ s * v = mul-dvd-mul_left r s y in
    let w : s * r ∣ r * v = subst (λ (z : ℕ). s * r ∣ z) (mul_comm v r) (mul-dvd-mul_right s x r) in
    let g : s * r ∣ gcd_of s r * v = gcd_mul s r v (s * r) u w in
    subst (λ (z : ℕ). s * r ∣ z) (ap (λ (k : ℕ). k * v) e ∙ one-mul v) g

-- where the shared part divides b, what b and the rest divide, a divides
pub strip_sound : (a b v : ℕ) → 0 < a → shared_of a b ∣ b → b ∣ v → rest_of a b ∣ v → a ∣ v
strip_sound a b v h sb bv rv =
    let t = rest_is a b h in
    let s = shared_of a b in
    let r = rest_of a b in
    let pos : 0 < s = pos_of_dvd_of_pos (shared_is a b h).divides h in
    let e : gcd_of s r ≡ 1 = apart_built b s r pos t.built t.apart in
    subst (λ (z : ℕ). z ∣ v) (sym t.product) (coprime_product s r v e (dvd_trans s sb bv) rv)

pub rest_pos : (a b : ℕ) → 0 < a → 0 < rest_of a b
rest_pos a b h =
    pos_of_dvd_of_pos (subst (λ (x : ℕ). rest_of a b ∣ x) (sym (rest_is a b h).product) (dvd-mul_left (rest_of a b) (shared_of a b))) h

pub shared_pos : (a b : ℕ) → 0 < a → 0 < shared_of a b
shared_pos a b h = pos_of_dvd_of_pos (shared_is a b h).divides h

pub strip_none : (a b s : ℕ) → s ≡ shared_of a b → (s ≡ 1) ⊎ (b % s ≡ 0 → ⊥) → None ≡ strip_of a b
strip_none a b s e h = sym (cond-true (eqb (shared_of a b) 1 || not (eqb (b % shared_of a b) 0)) None (Some (a / shared_of a b)) (go h))
  where
    go : (s ≡ 1) ⊎ (b % s ≡ 0 → ⊥) → (eqb (shared_of a b) 1 || not (eqb (b % shared_of a b) 0)) ≡ true
    go (inl k) = or_left (eqb (shared_of a b) 1) (not (eqb (b % shared_of a b) 0)) (eq-eqb (shared_of a b) 1 (sym e ∙ k))
    go (inr k) =
        or_right (eqb (shared_of a b) 1) (not (eqb (b % shared_of a b) 0))
        (not_from_false (eqb (b % shared_of a b) 0) (ne_eqb (b % shared_of a b) 0 (λ z. k (ap (λ (x : ℕ). b % x) e ∙ z))))

pub strip_some : (a b s : ℕ) → s ≡ shared_of a b → (s ≡ 1 → ⊥) → b % s ≡ 0 → Some (a / s) ≡ strip_of a b
strip_some a b s e ne d =
    ap (λ (x : ℕ). Some (a / x)) e ∙
    sym
    (cond-false (eqb (shared_of a b) 1 || not (eqb (b % shared_of a b) 0)) None (Some (a / shared_of a b))
    (or_from (eqb (shared_of a b) 1) (not (eqb (b % shared_of a b) 0)) (ne_eqb (shared_of a b) 1 (λ k. ne (e ∙ k)))
    (not_from_true (eqb (b % shared_of a b) 0) (eq-eqb (b % shared_of a b) 0 (ap (λ (x : ℕ). b % x) (sym e) ∙ d)))))
