-- Lists of at most one fraction: they are tidy, fold to themselves and are thin.
use Rattle.std.proofs.Common.{◌≡◌, ℕ, ◌<◌, ◌≤◌, Bool, false, not, List, [], ◌∷◌, length, slice_index_or, ltb, cond, refl, sym, ap, ◌∙◌, subst, arith, rules}
use Rattle.std.proofs.lemmas.Bool.{cond-true, cond-false, lt-ltb, le-ltb}
use Rattle.divisors.specs.declared.fraction.Fraction.{Fraction}
use Rattle.divisors.specs.Dividing.{divided, thin_of}
use Rattle.divisors.specs.Folding.{FoldsTo, done}
use Rattle.divisors.specs.Fractions.{reduce_of}
use Rattle.divisors.specs.Lists.{put, tidy_of}
use Rattle.divisors.specs.Written.{lowest_above}
use Rattle.divisors.specs.Lemmas.Ascends.{same_self}

pub tidy_one : (f : Fraction) → tidy_of (f ∷ []) ≡ f ∷ []
unfolding tidy_of put
tidy_one f = refl

pub tidy_none : tidy_of [] ≡ []
unfolding tidy_of
tidy_none = refl

pub no_item : (xs : List Fraction) → length xs ≡ 0 → xs ≡ []
no_item [] h = refl
no_item (x ∷ xs) h = absurd (omega (arith, h))

pub one_item : (xs : List Fraction) (d : Fraction) → length xs ≡ 1 → xs ≡ slice_index_or xs 0 d ∷ []
one_item [] d h = absurd (omega (arith, h))
one_item (x ∷ []) d h = refl
one_item (x ∷ y ∷ xs) d h = absurd (omega (arith, h))

pub folds_short : (xs : List Fraction) → length xs ≤ 1 → FoldsTo xs xs
folds_short xs h = done (λ i k l m. absurd (omega (arith, h, l, m))) (λ i k l m n. absurd (n (omega (arith, h, l, m))))

pub single_above : (w f : Fraction) (n : ℕ) → f ≡ reduce_of w → n < f.p → f ∷ [] ≡ tidy_of (lowest_above n (w ∷ []))
single_above w f n e h =
    let g = reduce_of w in
    let above : n < g.p = subst (λ (x : Fraction). n < x.p) e h in
    sym (tidy_one f) ∙ ap tidy_of (ap (λ x. x ∷ []) e ∙ sym (cond-true (ltb n g.p) (g ∷ []) [] (lt-ltb n g.p above)))

pub single_below : (w f : Fraction) (n : ℕ) → f ≡ reduce_of w → f.p ≤ n → [] ≡ tidy_of (lowest_above n (w ∷ []))
single_below w f n e h =
    let g = reduce_of w in
    let below : g.p ≤ n = subst (λ (x : Fraction). x.p ≤ n) e h in
    sym tidy_none ∙ ap tidy_of (sym (cond-false (ltb n g.p) (g ∷ []) [] (le-ltb n g.p below)))

thin_item : (x : Fraction) (b : Bool) → divided (x ∷ []) x ≡ b → b ≡ false → thin_of (x ∷ []) ≡ x ∷ []
unfolding thin_of
thin_item x b e f = ap (λ c. cond (not c) (x ∷ []) []) (e ∙ f)

not_divided : (x : Fraction) → divided (x ∷ []) x ≡ false
not_divided x = search (rules, same_self x)

pub thin_short : (xs : List Fraction) → length xs ≤ 1 → thin_of xs ≡ xs
unfolding thin_of
thin_short [] h = refl
thin_short (x ∷ []) h = thin_item x (divided (x ∷ []) x) refl (not_divided x)
thin_short (x ∷ y ∷ xs) h = absurd (omega (arith, h))
