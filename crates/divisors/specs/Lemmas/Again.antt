-- A kept list made again is the same list: so a row is tested by making it again.
use Rattle.std.proofs.Common.{◌≡◌, ℕ, zero, suc, ◌/◌, ◌^◌, ◌<◌, Bool, true, cond, not, ◌&&◌, ltb, List, [], ◌∷◌, ◌++◌, map, length, get_or, None, filter, sym, refl, ap, ◌∙◌, ⊎_elim, div-one, arith}
use Rattle.std.specs.List.{AllByRecursion}
use Rattle.std.proofs.ByRecursion.{All-append, All-get_or}
use Rattle.std.proofs.lemmas.List.{append_assoc, append-nil}
use Rattle.std.proofs.lemmas.Bool.{and_from, cases_order, cond-true, lt-ltb}
use Rattle.divisors.specs.declared.fraction.Fraction.{Fraction}
use Rattle.divisors.specs.Dividing.{divided, thin_of, thinned}
use Rattle.divisors.specs.Folding.{NoJoin, NoStrip, done, fold_of}
use Rattle.divisors.specs.Fractions.{Reduced, in_range, lower, none, reduce_of, same}
use Rattle.divisors.specs.Joining.{join_of}
use Rattle.divisors.specs.Lists.{put, put_all, tidy_of}
use Rattle.divisors.specs.Settled.{settled}
use Rattle.divisors.specs.Written.{are_in_range, barred_of, lowest_above, over_integers, required_of}
use Rattle.divisors.specs.Lemmas.Ascends.{Lower, put_is, puts}
use Rattle.divisors.specs.Lemmas.Folds.{folds_to}
use Rattle.divisors.specs.Lemmas.Members.{Pairs, all_in, in_every}
use Rattle.divisors.specs.Lemmas.Settles.{More, settled_parts}
use Rattle.divisors.specs.Lemmas.Thins.{thinned_parts}

reduce_same : (f : Fraction) → Reduced f → reduce_of f ≡ f
reduce_same f r =
    let p = ap (λ (g : ℕ). f.p / g) r.coprime ∙ div-one f.p in
    let q = ap (λ (g : ℕ). f.q / g) r.coprime ∙ div-one f.q in
    λ i. record { p = p i; q = q i }

reduces_same : (xs : List Fraction) → AllByRecursion Reduced xs → map reduce_of xs ≡ xs
reduces_same [] h = refl
reduces_same (x ∷ xs) h = let e = reduce_same x h.0 in let k = reduces_same xs h.1 in λ i. e i ∷ k i

keeps_all : (p : Fraction → Bool) (xs : List Fraction) → AllByRecursion (λ x. p x ≡ true) xs → filter p xs ≡ xs
keeps_all p [] h = refl
keeps_all p (x ∷ xs) h = cond-true (p x) (x ∷ filter p xs) (filter p xs) h.0 ∙ ap (λ (ys : List Fraction). x ∷ ys) (keeps_all p xs h.1)

-- what is above all is put at the end
put_last : (f : Fraction) (xs : List Fraction) → AllByRecursion (λ x. Lower x f) xs → puts f xs ≡ xs ++ f ∷ []
put_last f [] h = refl
put_last f (x ∷ xs) h =
    cond-true (lower x f) (x ∷ puts f xs) (cond (same x f) (x ∷ xs) (f ∷ x ∷ xs)) h.0 ∙ ap (λ (ys : List Fraction). x ∷ ys) (put_last f xs h.1)

-- all of the first list are lower than all of the second
abbrev Under : List Fraction → List Fraction → Type 0
Under xs fs = AllByRecursion (λ f. AllByRecursion (λ x. Lower x f) xs) fs

under_more : (f : Fraction) (xs fs : List Fraction) → Under xs fs → AllByRecursion (Lower f) fs → Under (xs ++ f ∷ []) fs
under_more f xs [] h g = tt
under_more f xs (k ∷ fs) h g = (All-append (λ x. Lower x k) xs (f ∷ []) h.0 (g.0, tt), under_more f xs fs h.1 g.1)

puts_same : (fs xs : List Fraction) → Pairs Lower fs → Under xs fs → put_all fs xs ≡ xs ++ fs
unfolding put
puts_same [] xs h g = sym (append-nil xs)
puts_same (f ∷ fs) xs h g =
    ap (λ (ys : List Fraction). put_all fs ys) (put_is f xs ∙ put_last f xs g.0) ∙
    (puts_same fs (xs ++ f ∷ []) h.1 (under_more f xs fs g.1 h.0) ∙ append_assoc xs (f ∷ []) fs)

under_none : (fs : List Fraction) → Under [] fs
under_none [] = tt
under_none (f ∷ fs) = (tt, under_none fs)

tidy_same : (xs : List Fraction) → Pairs Lower xs → tidy_of xs ≡ xs
unfolding tidy_of
tidy_same xs h = puts_same xs [] h (under_none xs)

-- what holds of each pair holds at each pair of places
pairs_at : (R : Fraction → Fraction → Type 0) (xs : List Fraction) → Pairs R xs → (i k : ℕ) → i < k → k < length xs → R (get_or xs i none) (get_or xs k none)
pairs_at R [] h i k a b = absurd (omega arith)
pairs_at R (x ∷ xs) h zero zero a b = absurd (omega arith)
pairs_at R (x ∷ xs) h zero (suc k) a b = All-get_or (R x) xs k none (omega arith) h.0
pairs_at R (x ∷ xs) h (suc i) zero a b = absurd (omega arith)
pairs_at R (x ∷ xs) h (suc i) (suc k) a b = pairs_at R xs h.1 i k (omega arith) (omega arith)

no_join : (xs : List Fraction) → settled xs ≡ true → NoJoin xs
no_join xs e i k a b = pairs_at (λ x y. join_of x y ≡ None) xs (settled_parts xs e).apart i k a b

no_strip : (xs : List Fraction) → settled xs ≡ true → NoStrip xs
no_strip xs e i k a b d =
    let h = (settled_parts xs e).firm in
    ⊎_elim (λ e. absurd (d e))
    (λ o. ⊎_elim (λ l. (pairs_at _ xs h i k l b).0) (λ l. (pairs_at _ xs h k i l a).1) o) (cases_order i k)

pub required_same : (xs : List Fraction) → settled xs ≡ true → required_of xs ≡ xs
unfolding required_of
required_same xs e =
    let s = settled_parts xs e in
    let above : lowest_above 1 xs ≡ xs =
    ap (λ (ys : List Fraction). filter (λ f. ltb 1 f.p) ys) (reduces_same xs s.reduced) ∙ keeps_all (λ f. ltb 1 f.p) xs (more_tests xs s.more) in
    let start : over_integers xs ≡ xs = ap tidy_of above ∙ tidy_same xs s.rising in
    ap fold_of start ∙ sym (folds_to xs xs s.reduced (done (no_join xs e) (no_strip xs e)))
  where
    more_tests : (ys : List Fraction) → AllByRecursion More ys → AllByRecursion (λ f. ltb 1 f.p ≡ true) ys
    more_tests [] h = tt
    more_tests (y ∷ ys) h = (lt-ltb 1 y.p h.0, more_tests ys h.1)

pub barred_same : (xs : List Fraction) → thinned xs ≡ true → barred_of xs ≡ xs
unfolding barred_of thin_of
barred_same xs e =
    let s = thinned_parts xs e in
    let start : tidy_of (map reduce_of xs) ≡ xs = ap tidy_of (reduces_same xs s.reduced) ∙ tidy_same xs s.rising in
    ap thin_of start ∙ keeps_all (λ x. not (divided xs x)) xs s.undivided

-- kept lists are in range
in_range_if : (f : Fraction) → Reduced f → in_range f ≡ true
in_range_if f r =
    and_from (ltb 0 f.p) (ltb f.p (2 ^ 63) && (ltb 0 f.q && ltb f.q (2 ^ 63))) (lt-ltb 0 f.p r.p_low)
    (and_from (ltb f.p (2 ^ 63)) (ltb 0 f.q && ltb f.q (2 ^ 63)) (lt-ltb f.p (2 ^ 63) r.p_high)
    (and_from (ltb 0 f.q) (ltb f.q (2 ^ 63)) (lt-ltb 0 f.q r.q_low) (lt-ltb f.q (2 ^ 63) r.q_high)))

pub reduced_in_range : (xs : List Fraction) → AllByRecursion Reduced xs → are_in_range xs ≡ true
reduced_in_range xs h = in_every in_range xs (λ x i. in_range_if x (all_in Reduced xs h x i))
