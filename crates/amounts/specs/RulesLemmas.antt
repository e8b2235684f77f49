-- What a rule admits, its grid, and the order of rules.
use Rattle.std.specs.Prelude.{◌≡◌, ℕ, ◌*◌, ◌%◌, ◌^◌, ◌<◌, true, false, cond, not, ◌&&◌, List, [], ◌∷◌, ℤ, Some, None, Decides, Option, ◌==◌, nat_lt, unsigned_abs, refl}
use Rattle.std.proofs.Common.{sym, ap, subst, ◌∙◌, ⊎_elim, mul-one, arith}
use Rattle.std.proofs.Math.Nat.{mod-one}
use Rattle.std.proofs.lemmas.Bool.{and_from, and_parts, both_ways, cond_both, cond-true, eqb-true, false≢true, ltb-true, true≢false}
use Rattle.divisors.specs.declared.fraction.Fraction.{Fraction}
use Rattle.divisors.specs.Fractions.{is_multiple}
use Rattle.divisors.specs.Lawful.{order_laws, tests_mean}
use Rattle.divisors.specs.Lists.{are_reduced, at_most, every, sole_of, some}
use Rattle.divisors.specs.Written.{Admits, Spares}
use Rattle.amounts.specs.Rules.{admitted, both_at_most, step, step_of}

-- the test says: a multiple of each of the first list, and of none of the second
pub admitted_means : (xs ys : List Fraction) (v : ℤ) → Decides (admitted xs ys (unsigned_abs v)) (Admits xs v × Spares ys v)
admitted_means xs ys v =
    let n = unsigned_abs v in
    let p = every (is_multiple n) xs in
    let q = not (some (is_multiple n) ys) in
    let a = tests_mean.admits xs v in
    let b = tests_mean.spares ys v in
    (λ h. let u = and_parts p q h in (a.0 u.0, b.0 u.1), λ m. and_from p q (a.1 m.0) (b.1 m.1))

-- of two lists one is at most the other
up_total : (xs ys : List Fraction) → at_most xs ys ≡ false → at_most ys xs ≡ true
up_total xs ys h = ⊎_elim (λ t. absurd (both_ways (at_most xs ys) h t)) (λ t. t) (order_laws.total xs ys)

step_low : (o : Option Fraction) → 0 < step_of o
step_low None = omega arith
step_low (Some f) =
    cond_both (f.q == 1 && (nat_lt 0 f.p && nat_lt f.p (2 ^ 63))) f.p 1 (λ s. 0 < s)
    (λ t. ltb-true 0 f.p (and_parts (nat_lt 0 f.p) (nat_lt f.p (2 ^ 63)) (and_parts (f.q == 1) (nat_lt 0 f.p && nat_lt f.p (2 ^ 63)) t).1).0)
    (λ _. omega arith)

pub step_pos : (xs : List Fraction) → 0 < step xs
step_pos xs = step_low (sole_of xs)

-- what is admitted is on the grid
pub admitted_step : (xs ys : List Fraction) (n : ℕ) → admitted xs ys n ≡ true → n % step xs ≡ 0
admitted_step [] ys n h = mod-one n
admitted_step (f ∷ []) ys n h =
    cond_both (f.q == 1 && (nat_lt 0 f.p && nat_lt f.p (2 ^ 63))) f.p 1 (λ s. n % s ≡ 0)
    (λ t.
    let one : f.q ≡ 1 = eqb-true f.q 1 (and_parts (f.q == 1) (nat_lt 0 f.p && nat_lt f.p (2 ^ 63)) t).0 in
    let u = and_parts (every (is_multiple n) (f ∷ [])) (not (some (is_multiple n) ys)) h in
    let w = and_parts (is_multiple n f) true u.0 in
    let whole : n * f.q ≡ n = ap (λ (q : ℕ). n * q) one ∙ mul-one n in
    subst (λ (m : ℕ). m % f.p ≡ 0) whole (eqb-true (n * f.q % f.p) 0 w.0))
    (λ _. mod-one n)
admitted_step (f ∷ g ∷ fs) ys n h = mod-one n

-- one pair of lists against another, the first lists first
pub both_parts : (r s t u : List Fraction) → both_at_most r s t u ≡ true → (at_most r t ≡ true) × (at_most t r ≡ true → at_most s u ≡ true)
both_parts r s t u =
    cond_both (at_most r t) (cond (at_most t r) (at_most s u) true) false (λ b. b ≡ true → (at_most r t ≡ true) × (at_most t r ≡ true → at_most s u ≡ true))
    (λ x e. (x, λ y. sym (cond-true (at_most t r) (at_most s u) true y) ∙ e)) (λ _ e. absurd (false≢true e))

pub both_from : (r s t u : List Fraction) → at_most r t ≡ true → (at_most t r ≡ true → at_most s u ≡ true) → both_at_most r s t u ≡ true
both_from r s t u h f =
    cond-true (at_most r t) (cond (at_most t r) (at_most s u) true) false h ∙ cond_both (at_most t r) (at_most s u) true (λ b. b ≡ true) f (λ _. refl)

pub both_total : (r s t u : List Fraction) → both_at_most r s t u ≡ false → both_at_most t u r s ≡ true
both_total r s t u =
    cond_both (at_most r t) (cond (at_most t r) (at_most s u) true) false (λ b. b ≡ false → both_at_most t u r s ≡ true)
    (λ x.
    cond_both (at_most t r) (at_most s u) true (λ b. b ≡ false → both_at_most t u r s ≡ true)
    (λ y e. both_from t u r s y (λ _. up_total s u e)) (λ _ e. absurd (true≢false e)))
    (λ x _. both_from t u r s (up_total r t x) (λ y. absurd (both_ways (at_most r t) x y)))

pub both_trans :
    (r s t u v w : List Fraction) → are_reduced r ≡ true → are_reduced t ≡ true → are_reduced v ≡ true → are_reduced s ≡ true → are_reduced u ≡ true → are_reduced w ≡ true →
    both_at_most r s t u ≡ true → both_at_most t u v w ≡ true → both_at_most r s v w ≡ true
both_trans r s t u v w a b c d e f h i =
    let x = both_parts r s t u h in
    let y = both_parts t u v w i in
    let up = order_laws.transitive in
    both_from r s v w (up r t v a b c x.0 y.0)
    (λ k. up s u w d e f (x.1 (up t v r b c a y.0 k)) (y.1 (up v r t c a b k x.0)))

pub both_refl : (r s t u : List Fraction) → r ≡ t → s ≡ u → both_at_most r s t u ≡ true
both_refl r s t u d e =
    both_from r s t u (subst (λ (xs : List Fraction). at_most r xs ≡ true) d (order_laws.reflexive r)) (λ _. subst (λ (xs : List Fraction). at_most s xs ≡ true) e (order_laws.reflexive s))
