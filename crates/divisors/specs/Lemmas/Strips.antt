-- What a strip leaves.
use Rattle.std.proofs.Common.{◌≡◌, ℕ, ◌*◌, ◌/◌, ◌%◌, ◌<◌, Bool, true, false, cond, not, ◌&&◌, ◌||◌, eqb, ltb, ◌↔◌, Some, None, sym, refl, ap, ◌∙◌, subst, mul-one, arith}
use Prim.Native.Nat.{◌∣◌}
use native.Mathlib.Nat.{dvd_trans, dvd-mul_left, dvd_of_mod-eq-zero, div-lt_self, mul-div_cancel_left, eq-one_of_dvd-one}
use Rattle.std.specs.Option.{option_map}
use Rattle.std.proofs.lemmas.Bool.{and_parts, or_parts, eqb-true, eqb-false, ltb-true, not-false}
use Rattle.divisors.specs.declared.fraction.Fraction.{Fraction}
use Rattle.divisors.specs.Fractions.{Multiple, Reduced}
use Rattle.divisors.specs.Joining.{strip_by}
use Rattle.divisors.specs.Shared.{rest_of, shared_of, strip_of}
use Rattle.divisors.specs.Whole.{gcd_of}
use Rattle.divisors.specs.Lemmas.Gcds.{gcd_is}
use Rattle.divisors.specs.Lemmas.Primes.{rest_is, rest_pos, shared_pos, strip_sound}

pub record Stripped (a b f : Fraction) : Type 0 where
  pub whole : a.q ≡ 1
  pub by_whole : b.q ≡ 1
  pub low : 0 < a.p
  pub shares : shared_of a.p b.p ≡ 1 → ⊥
  pub divides : b.p % shared_of a.p b.p ≡ 0
  pub is : record { p = a.p / shared_of a.p b.p; q = 1 } ≡ f

pub strip_parts : (a b f : Fraction) → strip_by a b ≡ Some f → Stripped a b f
strip_parts a b f e = go (eqb a.q 1 && (eqb b.q 1 && ltb 0 a.p)) refl e
  where
    s : ℕ
    s = shared_of a.p b.p

    no : {A : Type 0} → None ≡ Some f → A
    no k = absurd (let z : ◌≡◌ {A = ℕ} 0 1 = cc in omega arith)

    in_strip : a.q ≡ 1 → b.q ≡ 1 → 0 < a.p → (t : Bool) → (eqb (shared_of a.p b.p) 1 || not (eqb (b.p % shared_of a.p b.p) 0)) ≡ t → option_map {T = ℕ} {U = Fraction} (λ n. record { p = n; q = 1 }) (cond t None (Some (a.p / shared_of a.p b.p))) ≡ Some f → Stripped a b f
    in_strip x y l true t k = no k
    in_strip x y l false t k =
        let w = or_parts (eqb (shared_of a.p b.p) 1) (not (eqb (b.p % shared_of a.p b.p) 0)) t in
        record {
          whole = x;
          by_whole = y;
          low = l;
          shares = eqb-false (shared_of a.p b.p) 1 w.0;
          divides = eqb-true (b.p % shared_of a.p b.p) 0 (not-false (eqb (b.p % shared_of a.p b.p) 0) w.1);
          is = cc;
        }

    go : (t : Bool) → (eqb a.q 1 && (eqb b.q 1 && ltb 0 a.p)) ≡ t → cond t (option_map {T = ℕ} {U = Fraction} (λ n. record { p = n; q = 1 }) (strip_of a.p b.p)) None ≡ Some f → Stripped a b f
    go true t k =
        let w = and_parts (eqb a.q 1) (eqb b.q 1 && ltb 0 a.p) t in
        let u = and_parts (eqb b.q 1) (ltb 0 a.p) w.1 in
        in_strip (eqb-true a.q 1 w.0) (eqb-true b.q 1 u.0) (ltb-true 0 a.p u.1) (eqb (shared_of a.p b.p) 1 || not (eqb (b.p % shared_of a.p b.p) 0)) refl k
    go false t k = no k

pub strip_less : (a b f : Fraction) → strip_by a b ≡ Some f → f.p < a.p
strip_less a b f e =
    let t = strip_parts a b f e in
    let pos = shared_pos a.p b.p t.low in
    let many : 1 < shared_of a.p b.p = omega (arith, t.shares) in
    subst (λ (g : Fraction). g.p < a.p) t.is (div-lt_self t.low many)

-- what is left is the rest
pub strip_rest : (a b f : Fraction) → Stripped a b f → f.p ≡ rest_of a.p b.p
strip_rest a b f t =
    ap (λ (g : Fraction). g.p) (sym t.is) ∙ ap (λ (x : ℕ). x / shared_of a.p b.p) (rest_is a.p b.p t.low).product ∙
    mul-div_cancel_left (rest_of a.p b.p) (shared_pos a.p b.p t.low)

rest_divides : (a b : ℕ) → 0 < a → rest_of a b ∣ a
rest_divides a b h = subst (λ (x : ℕ). rest_of a b ∣ x) (sym (rest_is a b h).product) (dvd-mul_left (rest_of a b) (shared_of a b))

pub strip_reduced : (a b f : Fraction) → Reduced a → strip_by a b ≡ Some f → Reduced f
strip_reduced a b f r e =
    let t = strip_parts a b f e in
    let q : f.q ≡ 1 = ap (λ (g : Fraction). g.q) (sym t.is) in
    let less = strip_less a b f e in
    record {
      p_low = subst (λ (x : ℕ). 0 < x) (sym (strip_rest a b f t)) (rest_pos a.p b.p t.low);
      p_high = omega (arith, r.p_high);
      q_low = omega arith;
      q_high = omega arith;
      coprime = ap (λ (x : ℕ). gcd_of f.p x) q ∙ eq-one_of_dvd-one (gcd_is f.p 1).right;
    }

-- the multiples of a whole fraction
multiple_of_whole : (f : Fraction) (v : ℕ) → f.q ≡ 1 → (Multiple f v) ↔ (f.p ∣ v)
multiple_of_whole f v e =
    let one : v * f.q ≡ v = ap (λ (x : ℕ). v * x) e ∙ mul-one v in
    (λ h. subst (λ (x : ℕ). f.p ∣ x) one h, λ h. subst (λ (x : ℕ). f.p ∣ x) (sym one) h)

-- beside the one that strips it, what is left admits what was there
pub strip_multiple : (a b f : Fraction) (v : ℕ) → strip_by a b ≡ Some f → Multiple b v → (Multiple f v) ↔ (Multiple a v)
strip_multiple a b f v e m =
    let t = strip_parts a b f e in
    let q : f.q ≡ 1 = ap (λ (g : Fraction). g.q) (sym t.is) in
    let is = strip_rest a b f t in (
      λ h.
          (multiple_of_whole a v t.whole).1
          (strip_sound a.p b.p v t.low (dvd_of_mod-eq-zero (shared_of a.p b.p) t.divides) ((multiple_of_whole b v t.by_whole).0 m)
          (subst (λ (x : ℕ). x ∣ v) is ((multiple_of_whole f v q).0 h))),
      λ h.
          (multiple_of_whole f v q).1
          (subst (λ (x : ℕ). x ∣ v) (sym is) (dvd_trans (rest_of a.p b.p) (rest_divides a.p b.p t.low) ((multiple_of_whole a v t.whole).0 h))),
    )
