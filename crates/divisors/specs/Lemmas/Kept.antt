-- The kept rows admit and bar what the written divisors do.
use Rattle.std.proofs.Common.{◌≡◌, ℕ, ◌*◌, ◌/◌, ◌≤◌, true, false, ltb, ◌↔◌, List, [], ◌∷◌, map, filter, sym, refl, ap, ◌∙◌, subst, div-le_self, arith}
use Prim.Native.Nat.{◌∣◌}
use native.Mathlib.Nat.{one-dvd}
use Rattle.std.specs.List.{AllByRecursion}
use Rattle.std.proofs.ByRecursion.{all_kept_by}
use Rattle.std.proofs.lemmas.Bool.{ltb-true, ltb-false, lt-ltb, cond_both, cond-true}
use Rattle.divisors.specs.declared.fraction.Fraction.{Fraction}
use Rattle.divisors.specs.Dividing.{thinned}
use Rattle.divisors.specs.Folding.{fold_of}
use Rattle.divisors.specs.Fractions.{InRange, Multiple, Reduced, reduce_of}
use Rattle.divisors.specs.Lists.{Tidies, tidy_of}
use Rattle.divisors.specs.Settled.{settled}
use Rattle.divisors.specs.Whole.{gcd_of}
use Rattle.divisors.specs.Written.{barred_of, lowest_above, over_integers, required_of}
use Rattle.divisors.specs.Lemmas.Gcds.{gcd_is, gcd_pos, parts_coprime, quotient_pos}
use Rattle.divisors.specs.Lemmas.Joins.{whole_multiple}
use Rattle.divisors.specs.Lemmas.Multiples.{lowest_divides}
use Rattle.divisors.specs.Lemmas.Tidied.{tidies_of}
use Rattle.divisors.specs.Lemmas.Tidies.{tidy_in, tidy_out}
use Rattle.divisors.specs.Lemmas.Admits.{fold_admits}
use Rattle.divisors.specs.Lemmas.Ascends.{tidy_ascends}
use Rattle.divisors.specs.Lemmas.Folds.{fold_is}
use Rattle.divisors.specs.Lemmas.Settles.{More, fold_settled}
use Rattle.divisors.specs.Lemmas.Thins.{thin_thinned, thin_spares}
use Rattle.divisors.specs.Lemmas.Members.{Multiples, NoMultiples}

pub reduce_reduced : (f : Fraction) → InRange f → Reduced (reduce_of f)
reduce_reduced f r =
    let g = gcd_of f.p f.q in
    let u : f.p / g ≤ f.p = div-le_self f.p g in
    let w : f.q / g ≤ f.q = div-le_self f.q g in
    record {
      p_low = quotient_pos f.p g r.p_low (gcd_is f.p f.q).left;
      p_high = omega (arith, r.p_high);
      q_low = quotient_pos f.q g r.q_low (gcd_is f.p f.q).right;
      q_high = omega (arith, r.q_high);
      coprime = parts_coprime f.p f.q r.p_low;
    }

-- a fraction and its lowest terms have the same multiples
pub reduce_multiple : (f : Fraction) (v : ℕ) → InRange f → (Multiple (reduce_of f) v) ↔ (Multiple f v)
reduce_multiple f v r =
    let w = whole_multiple (reduce_of f) v (reduce_reduced f r) in
    let t = lowest_divides v f.p f.q (gcd_pos f.p f.q r.p_low) (parts_coprime f.p f.q r.p_low) in
    (λ m. t.0 (w.0 m), λ m. w.1 (t.1 m))

pub reduce_all : (ws : List Fraction) → AllByRecursion InRange ws → AllByRecursion Reduced (map reduce_of ws)
reduce_all [] h = tt
reduce_all (w ∷ ws) h = (reduce_reduced w h.0, reduce_all ws h.1)

reduce_admits : (ws : List Fraction) (v : ℕ) → AllByRecursion InRange ws → (Multiples (map reduce_of ws) v) ↔ (Multiples ws v)
reduce_admits [] v h = (λ a. a, λ a. a)
reduce_admits (w ∷ ws) v h =
    let u = reduce_multiple w v h.0 in
    let k = reduce_admits ws v h.1 in
    (λ a. (u.0 a.0, k.0 a.1), λ a. (u.1 a.0, k.1 a.1))

reduce_spares : (ws : List Fraction) (v : ℕ) → AllByRecursion InRange ws → (NoMultiples (map reduce_of ws) v) ↔ (NoMultiples ws v)
reduce_spares [] v h = (λ a. a, λ a. a)
reduce_spares (w ∷ ws) v h =
    let u = reduce_multiple w v h.0 in
    let k = reduce_spares ws v h.1 in
    (λ a. (λ m. a.0 (u.1 m), k.0 a.1), λ a. (λ m. a.0 (u.0 m), k.1 a.1))

-- every whole number is a multiple of a fraction with numerator 1
unit_multiple : (f : Fraction) (v : ℕ) → Reduced f → ltb 1 f.p ≡ false → Multiple f v
unit_multiple f v r e =
    let low = r.p_low in
    let one : f.p ≡ 1 = omega (arith, ltb-false 1 f.p e) in
    subst (λ (x : ℕ). x ∣ v * f.q) (sym one) (one-dvd (v * f.q))

-- those with a numerator above 1
abbrev more : List Fraction → List Fraction
more xs = filter (λ f. ltb 1 f.p) xs

more_admits : (xs : List Fraction) (v : ℕ) → AllByRecursion Reduced xs → Multiples (more xs) v → Multiples xs v
more_admits [] v h = λ a. a
more_admits (x ∷ xs) v h =
    cond_both (ltb 1 x.p) (x ∷ more xs) (more xs) (λ l. Multiples l v → Multiples (x ∷ xs) v)
    (λ t a. (a.0, more_admits xs v h.1 a.1)) (λ n a. (unit_multiple x v h.0 n, more_admits xs v h.1 a))

more_more : (xs : List Fraction) → AllByRecursion More (more xs)
more_more [] = tt
more_more (x ∷ xs) =
    cond_both (ltb 1 x.p) (x ∷ more xs) (more xs) (AllByRecursion More) (λ t. (ltb-true 1 x.p t, more_more xs)) (λ _. more_more xs)

pub lowest_reduced : (n : ℕ) (ws : List Fraction) → AllByRecursion InRange ws → AllByRecursion Reduced (lowest_above n ws)
lowest_reduced n ws h = all_kept_by (λ f. ltb n f.p) Reduced (map reduce_of ws) (reduce_all ws h)

-- required divisors before folding
pub integers_reduced : (ws : List Fraction) → AllByRecursion InRange ws → AllByRecursion Reduced (over_integers ws)
integers_reduced ws h = tidy_in Reduced (lowest_above 1 ws) (lowest_reduced 1 ws h)

pub integers_tidy : (ws : List Fraction) → AllByRecursion InRange ws → Tidies (lowest_above 1 ws) (over_integers ws)
integers_tidy ws h = tidies_of (lowest_above 1 ws) (lowest_reduced 1 ws h)

-- the required list as it is kept
pub required_settled : (ws : List Fraction) → AllByRecursion InRange ws → settled (required_of ws) ≡ true
unfolding required_of
required_settled ws h =
    let xs = lowest_above 1 ws in
    let r = integers_reduced ws h in
    fold_settled (tidy_of xs) (fold_of (tidy_of xs)) (fold_is (tidy_of xs) r) r (tidy_in More xs (more_more (map reduce_of ws))) (tidy_ascends xs (lowest_reduced 1 ws h))

-- it admits exactly what the written divisors admit
pub required_admits : (ws : List Fraction) (v : ℕ) → AllByRecursion InRange ws → (Multiples (required_of ws) v) ↔ (Multiples ws v)
unfolding required_of
required_admits ws v h =
    let M : Fraction → Type 0 = λ f. Multiple f v in
    let rs = map reduce_of ws in
    let xs = lowest_above 1 ws in
    let r = integers_reduced ws h in
    let f = fold_admits (tidy_of xs) (fold_of (tidy_of xs)) (fold_is (tidy_of xs) r) r v in
    let w = reduce_admits ws v h in (
      λ a. w.0 (more_admits rs v (reduce_all ws h) (tidy_out M xs (f.0 a))),
      λ a. f.1 (tidy_in M xs (all_kept_by (λ f. ltb 1 f.p) M rs (w.1 a))),
    )

-- the barred list as it is kept
pub barred_thinned : (ws : List Fraction) → AllByRecursion InRange ws → thinned (barred_of ws) ≡ true
unfolding barred_of
barred_thinned ws h = let r = reduce_all ws h in thin_thinned (tidy_of (map reduce_of ws)) (tidy_in Reduced (map reduce_of ws) r) (tidy_ascends (map reduce_of ws) r)

-- it spares exactly what the written divisors spare
pub barred_spares : (ws : List Fraction) (v : ℕ) → AllByRecursion InRange ws → (NoMultiples (barred_of ws) v) ↔ (NoMultiples ws v)
unfolding barred_of
barred_spares ws v h =
    let N : Fraction → Type 0 = λ f. Multiple f v → ⊥ in
    let rs = map reduce_of ws in
    let t = thin_spares (tidy_of rs) v (tidy_in Reduced rs (reduce_all ws h)) in
    let w = reduce_spares ws v h in
    (λ s. w.0 (tidy_out N rs (t.0 s)), λ s. t.1 (tidy_in N rs (w.1 s)))

-- every numerator in lowest terms is above 0
pub positive : (ws : List Fraction) → AllByRecursion InRange ws → lowest_above 0 ws ≡ map reduce_of ws
positive [] h = refl
positive (w ∷ ws) h =
    cond-true (ltb 0 (reduce_of w).p) (reduce_of w ∷ lowest_above 0 ws) (lowest_above 0 ws) (lt-ltb 0 (reduce_of w).p (reduce_reduced w h.0).p_low) ∙
    ap (λ (xs : List Fraction). reduce_of w ∷ xs) (positive ws h.1)
