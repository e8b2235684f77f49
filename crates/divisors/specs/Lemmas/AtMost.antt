-- The order of rows is total, and only equal rows tie.
use Rattle.std.proofs.Common.{◌≡◌, true, false, cond, ◌⊎◌, List, [], ◌∷◌, sym, refl, ◌∙◌, subst, inl, inr, ⊎_elim}
use Rattle.std.specs.List.{AllByRecursion}
use Rattle.std.proofs.lemmas.Bool.{cases_Bool, cond-true, cond-false, cond_both, false≢true, true≢false}
use Rattle.divisors.specs.declared.fraction.Fraction.{Fraction}
use Rattle.divisors.specs.Fractions.{Reduced, lower}
use Rattle.divisors.specs.Lists.{at_most}
use Rattle.divisors.specs.Lemmas.Lower.{lower_irr, lower_asym, lower_tie, lower_trans}

-- the ways in which one row with a first item is up to another: by its first item, or by the rest behind equal ones
ways : (x y : Fraction) (xs ys : List Fraction) → Reduced x → Reduced y → at_most (x ∷ xs) (y ∷ ys) ≡ true → (lower x y ≡ true) ⊎ ((x ≡ y) × (at_most xs ys ≡ true))
ways x y xs ys r s =
    cond_both (lower x y) true (cond (lower y x) false (at_most xs ys)) (λ b. b ≡ true → (lower x y ≡ true) ⊎ ((x ≡ y) × (at_most xs ys ≡ true)))
    (λ t _. inl t)
    (λ n.
    cond_both (lower y x) false (at_most xs ys) (λ b. b ≡ true → (lower x y ≡ true) ⊎ ((x ≡ y) × (at_most xs ys ≡ true)))
    (λ _ e. absurd (false≢true e)) (λ m e. inr (lower_tie x y r s n m, e)))

by_first : (x y : Fraction) (xs ys : List Fraction) → lower x y ≡ true → at_most (x ∷ xs) (y ∷ ys) ≡ true
by_first x y xs ys h = cond-true (lower x y) true (cond (lower y x) false (at_most xs ys)) h

not_self : (x : Fraction) → lower x x ≡ false
not_self x = ⊎_elim (λ t. absurd (lower_irr x t)) (λ f. f) (cases_Bool (lower x x))

by_rest : (x y : Fraction) (xs ys : List Fraction) → x ≡ y → at_most xs ys ≡ true → at_most (x ∷ xs) (y ∷ ys) ≡ true
by_rest x y xs ys e h =
    subst (λ (z : Fraction). at_most (x ∷ xs) (z ∷ ys) ≡ true) e
    (cond-false (lower x x) true (cond (lower x x) false (at_most xs ys)) (not_self x) ∙ (cond-false (lower x x) false (at_most xs ys) (not_self x) ∙ h))

pub up_total : (xs ys : List Fraction) → at_most xs ys ≡ false → at_most ys xs ≡ true
up_total [] ys h = absurd (true≢false h)
up_total (x ∷ xs) [] h = refl
up_total (x ∷ xs) (y ∷ ys) h =
    cond_both (lower y x) true (cond (lower x y) false (at_most ys xs)) (λ b. b ≡ true) (λ _. refl)
    (λ n.
    cond_both (lower x y) false (at_most ys xs) (λ b. b ≡ true)
    (λ t. absurd (true≢false (sym (cond-true (lower x y) true (cond (lower y x) false (at_most xs ys)) t) ∙ h)))
    (λ m.
    up_total xs ys
    (sym (cond-false (lower y x) false (at_most xs ys) n) ∙ (sym (cond-false (lower x y) true (cond (lower y x) false (at_most xs ys)) m) ∙ h))))

pub up_refl : (xs : List Fraction) → at_most xs xs ≡ true
up_refl [] = refl
up_refl (x ∷ xs) = by_rest x x xs xs refl (up_refl xs)

pub up_trans : (xs ys zs : List Fraction) → AllByRecursion Reduced xs → AllByRecursion Reduced ys → AllByRecursion Reduced zs → at_most xs ys ≡ true → at_most ys zs ≡ true → at_most xs zs ≡ true
up_trans [] ys zs a b c h i = refl
up_trans (x ∷ xs) [] zs a b c h i = absurd (false≢true h)
up_trans (x ∷ xs) (y ∷ ys) [] a b c h i = absurd (false≢true i)
up_trans (x ∷ xs) (y ∷ ys) (z ∷ zs) a b c h i =
    go (ways x y xs ys a.0 b.0 h) (ways y z ys zs b.0 c.0 i) (up_trans xs ys zs a.1 b.1 c.1)
  where
    go :
        (lower x y ≡ true) ⊎ ((x ≡ y) × (at_most xs ys ≡ true)) → (lower y z ≡ true) ⊎ ((y ≡ z) × (at_most ys zs ≡ true)) →
        (at_most xs ys ≡ true → at_most ys zs ≡ true → at_most xs zs ≡ true) → at_most (x ∷ xs) (z ∷ zs) ≡ true
    go (inl t) (inl u) ih = by_first x z xs zs (lower_trans x y z a.0 b.0 c.0 t u)
    go (inl t) (inr u) ih = by_first x z xs zs (subst (λ (w : Fraction). lower x w ≡ true) u.0 t)
    go (inr t) (inl u) ih = by_first x z xs zs (subst (λ (w : Fraction). lower w z ≡ true) (sym t.0) u)
    go (inr t) (inr u) ih = by_rest x z xs zs (t.0 ∙ u.0) (ih t.1 u.1)

pub up_tie : (xs ys : List Fraction) → AllByRecursion Reduced xs → AllByRecursion Reduced ys → at_most xs ys ≡ true → at_most ys xs ≡ true → xs ≡ ys
up_tie [] [] a b h i = refl
up_tie [] (y ∷ ys) a b h i = absurd (false≢true i)
up_tie (x ∷ xs) [] a b h i = absurd (false≢true h)
up_tie (x ∷ xs) (y ∷ ys) a b h i = go (ways x y xs ys a.0 b.0 h) (ways y x ys xs b.0 a.0 i) (up_tie xs ys a.1 b.1)
  where
    go :
        (lower x y ≡ true) ⊎ ((x ≡ y) × (at_most xs ys ≡ true)) → (lower y x ≡ true) ⊎ ((y ≡ x) × (at_most ys xs ≡ true)) →
        (at_most xs ys ≡ true → at_most ys xs ≡ true → xs ≡ ys) → x ∷ xs ≡ y ∷ ys
    go (inl t) (inl u) ih = absurd (lower_asym x y t u)
    go (inl t) (inr u) ih = absurd (lower_irr x (subst (λ (w : Fraction). lower x w ≡ true) u.0 t))
    go (inr t) (inl u) ih = absurd (lower_irr y (subst (λ (w : Fraction). lower y w ≡ true) t.0 u))
    go (inr t) (inr u) ih = let e = ih t.1 u.1 in λ k. t.0 k ∷ e k
