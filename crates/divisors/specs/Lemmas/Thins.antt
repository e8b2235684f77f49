-- A thinned row: no one divides another, and it bars what the row bars.
use Rattle.std.proofs.Common.{◌≡◌, ℕ, zero, suc, ◌+◌, ◌-◌, ◌^◌, ◌<◌, ◌≤◌, Bool, true, false, not, ◌&&◌, eqb, ◌⊎◌, ◌↔◌, List, filter, inl, inr, ⊎_elim, arith}
use native.Mathlib.Nat.{le_of_dvd}
use Rattle.std.specs.List.{AllByRecursion}
use Rattle.std.proofs.ByRecursion.{all_kept_by}
use Rattle.std.proofs.lemmas.Bool.{and_parts, and_from, eq-eqb, cases_Bool, cases_eq, both_ways, not-true, not_from_false}
use Rattle.divisors.specs.declared.fraction.Fraction.{Fraction}
use Rattle.divisors.specs.Dividing.{divided, divides, thin, thin_of, thinned}
use Rattle.divisors.specs.Fractions.{Multiple, Reduced, same}
use Rattle.divisors.specs.Lists.{are_reduced, ascends}
use Rattle.divisors.specs.Lemmas.Tidies.{same_eq}
use Rattle.divisors.specs.Lemmas.Ascends.{Lower, ascends_pairs, pairs_ascends}
use Rattle.divisors.specs.Lemmas.Reducing.{all_reduced, reduced_all}
use Rattle.divisors.specs.Lemmas.Members.{NoMultiples, In, Pairs, all_in, in_all, every_in, in_every, some_in, in_some, kept_pairs, kept_in, in_kept}
use Rattle.divisors.specs.Lemmas.Divides.{divides_parts, divides_refl, divides_trans, divides_multiple}
use Rattle.divisors.specs.Lemmas.Settles.{Clear}

-- what divides one that no other divides is that one
pub only_itself : (xs : List Fraction) (x y : Fraction) → In x xs → divided xs y ≡ false → divides x y ≡ true → x ≡ y
only_itself xs x y i n d =
    ⊎_elim (λ s. same_eq x y s)
    (λ s. absurd (both_ways (divided xs y) n (some_in (λ z. divides z y && not (same z y)) xs x i (and_from (divides x y) (not (same x y)) d (not_from_false (same x y) s)))))
    (cases_Bool (same x y))

pub record Thinned (xs : List Fraction) : Type 0 where
  pub reduced : AllByRecursion Reduced xs
  pub rising : Pairs Lower xs
  pub clear : Clear xs
  pub undivided : AllByRecursion (λ x. not (divided xs x) ≡ true) xs

pub thinned_parts : (xs : List Fraction) → thinned xs ≡ true → Thinned xs
thinned_parts xs e =
    let a = and_parts (are_reduced xs) (ascends xs && thin xs) e in
    let b = and_parts (ascends xs) (thin xs) a.1 in
    let r = all_reduced xs a.0 in
    record {
      reduced = r;
      rising = ascends_pairs xs r b.0;
      clear = λ x y i j d. only_itself xs x y i (not-true (divided xs y) (every_in (λ z. not (divided xs z)) xs b.1 y j)) d;
      undivided = in_all (λ x. not (divided xs x) ≡ true) xs (every_in (λ z. not (divided xs z)) xs b.1);
    }

-- the thinned row is reduced, ascending, and no one divides another
pub thin_thinned : (xs : List Fraction) → AllByRecursion Reduced xs → ascends xs ≡ true → thinned (thin_of xs) ≡ true
unfolding thin_of
thin_thinned xs h a =
    let p : Fraction → Bool = λ x. not (divided xs x) in
    let ys = filter p xs in
    let pairs : Pairs Lower ys = kept_pairs Lower p xs (all_kept_by p) (ascends_pairs xs h a) in
    and_from (are_reduced ys) (ascends ys && thin ys) (reduced_all ys (all_kept_by p Reduced xs h))
    (and_from (ascends ys) (thin ys) (pairs_ascends ys pairs)
    (in_every (λ x. not (divided ys x)) ys
    (λ x i.
    let n = not-true (divided xs x) (in_kept p xs x i).1 in
    not_from_false (divided ys x)
    (⊎_elim
    (λ t.
    let w = in_some (λ y. divides y x && not (same y x)) ys t in
    absurd (both_ways (divided xs x) n (some_in (λ y. divides y x && not (same y x)) xs w.0 (in_kept p xs w.0 w.1).0 w.2)))
    (λ f. f) (cases_Bool (divided ys x))))))

-- another that divides it has a lower numerator or a higher denominator
abbrev rank : Fraction → ℕ
rank f = f.p + (2 ^ 63 - f.q)

falls : (x y : Fraction) → Reduced x → Reduced y → divides y x ≡ true → same y x ≡ false → rank y < rank x
falls x y r s d n =
    let u = divides_parts y x d in
    let p : y.p ≤ x.p = le_of_dvd r.p_low u.0 in
    let q : x.q ≤ y.q = le_of_dvd s.q_low u.1 in
    ⊎_elim
    (λ e.
    ⊎_elim (λ f. absurd (both_ways (same y x) n (and_from (eqb y.p x.p) (eqb y.q x.q) (eq-eqb y.p x.p e) (eq-eqb y.q x.q f))))
    (λ f. omega (arith, s.q_high)) (cases_eq y.q x.q))
    (λ e. omega (arith, s.q_high)) (cases_eq y.p x.p)

-- one that is kept divides each
top : (n : ℕ) (xs : List Fraction) → AllByRecursion Reduced xs → (x : Fraction) → In x xs → rank x < n → (m : Fraction) × In m (thin_of xs) × (divides m x ≡ true)
unfolding thin_of
top zero xs h x i l = absurd (omega arith)
top (suc n) xs h x i l = go (cases_Bool (divided xs x)) (top n xs h)
  where
    r : Reduced x
    r = all_in Reduced xs h x i

    go :
        (divided xs x ≡ true) ⊎ (divided xs x ≡ false) →
        ((y : Fraction) → In y xs → rank y < n → (m : Fraction) × In m (filter (λ z. not (divided xs z)) xs) × (divides m y ≡ true)) →
        (m : Fraction) × In m (filter (λ z. not (divided xs z)) xs) × (divides m x ≡ true)
    go (inr f) ih = (x, kept_in (λ z. not (divided xs z)) xs x i (not_from_false (divided xs x) f), divides_refl x r)
    go (inl t) ih =
        let w = in_some (λ y. divides y x && not (same y x)) xs t in
        let u = and_parts (divides w.0 x) (not (same w.0 x)) w.2 in
        let s = all_in Reduced xs h w.0 w.1 in
        let k = ih w.0 w.1 (omega (arith, falls x w.0 r s u.0 (not-true (same w.0 x) u.1))) in
        (k.0, k.1, divides_trans k.0 w.0 x (all_in Reduced xs h k.0 (in_kept (λ z. not (divided xs z)) xs k.0 k.1).0) r k.2 u.0)

thin_all : (P : Fraction → Type 0) (xs : List Fraction) → AllByRecursion P xs → AllByRecursion P (thin_of xs)
unfolding thin_of
thin_all P xs h = all_kept_by (λ x. not (divided xs x)) P xs h

-- what the thinned row spares, the row spares
pub thin_spares : (xs : List Fraction) (v : ℕ) → AllByRecursion Reduced xs → (NoMultiples (thin_of xs) v) ↔ (NoMultiples xs v)
thin_spares xs v h = (
  λ s.
      in_all (λ f. Multiple f v → ⊥) xs
      (λ x i m.
      let t = top (suc (rank x)) xs h x i (omega arith) in
      all_in (λ f. Multiple f v → ⊥) (thin_of xs) s t.0 t.1
      (divides_multiple t.0 x v (all_in Reduced (thin_of xs) (thin_all Reduced xs h) t.0 t.1) (all_in Reduced xs h x i) t.2 m)),
  λ s. thin_all (λ f. Multiple f v → ⊥) xs s,
)
