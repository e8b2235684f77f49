-- A tidy row of reduced fractions is ascending, without repeats.
use Rattle.std.proofs.Common.{◌≡◌, ℕ, suc, Bool, true, false, cond, ◌&&◌, eqb, ltb, ◌⊎◌, List, [], ◌∷◌, length, get_or, sym, refl, ap, ◌∙◌, subst, inl, inr, arith}
use Rattle.std.specs.List.{insert, AllByRecursion}
use Rattle.std.proofs.lemmas.Bool.{and_parts, and_from, both_ways, cases_Bool, cond_both, eq-eqb, lt-ltb}
use Rattle.std.proofs.lemmas.Bool.Decides.{nat_tests}
use Rattle.divisors.specs.declared.fraction.Fraction.{Fraction}
use Rattle.divisors.specs.Fractions.{Reduced, lower, none, same}
use Rattle.divisors.specs.Lists.{ascends, place_of, put, put_all, tidy_of}
use Rattle.divisors.specs.Lemmas.Lower.{lower_tie, lower_trans}
use Rattle.divisors.specs.Lemmas.Members.{Pairs}
use Rattle.divisors.specs.Lemmas.Tidies.{put_in}

pub same_self : (a : Fraction) → same a a ≡ true
same_self a = and_from (eqb a.p a.p) (eqb a.q a.q) (eq-eqb a.p a.p refl) (eq-eqb a.q a.q refl)

-- the put, one fraction at a time
abbrev pub puts : Fraction → List Fraction → List Fraction
puts f [] = f ∷ []
puts f (x ∷ xs) = cond (lower x f) (x ∷ puts f xs) (cond (same x f) (x ∷ xs) (f ∷ x ∷ xs))

-- the put, at a place
abbrev put_at : Fraction → List Fraction → ℕ → List Fraction
put_at f xs k = cond (ltb k (length xs) && same (get_or xs k none) f) xs (insert xs k f)

test_suc : (k n : ℕ) → ltb (suc k) (suc n) ≡ ltb k n
test_suc k n = grind (arith, nat_tests)

cond_cons : (b : Bool) (x : Fraction) (xs ys : List Fraction) → cond b (x ∷ xs) (x ∷ ys) ≡ x ∷ cond b xs ys
cond_cons true x xs ys = refl
cond_cons false x xs ys = refl

put_suc : (f x : Fraction) (xs : List Fraction) (k : ℕ) → put_at f (x ∷ xs) (suc k) ≡ x ∷ put_at f xs k
put_suc f x xs k =
    ap (λ (t : Bool). cond (t && same (get_or xs k none) f) (x ∷ xs) (x ∷ insert xs k f)) (test_suc k (length xs)) ∙
    cond_cons (ltb k (length xs) && same (get_or xs k none) f) x xs (insert xs k f)

put_zero : (f x : Fraction) (xs : List Fraction) → put_at f (x ∷ xs) 0 ≡ cond (same x f) (x ∷ xs) (f ∷ x ∷ xs)
put_zero f x xs = ap (λ (t : Bool). cond (t && same x f) (x ∷ xs) (f ∷ x ∷ xs)) (lt-ltb 0 (suc (length xs)) (omega arith))

pub put_is : (f : Fraction) (xs : List Fraction) → put_at f xs (place_of f xs) ≡ puts f xs
put_is f [] = refl
put_is f (x ∷ xs) = go (lower x f) (put_is f xs)
  where
    go : (t : Bool) → put_at f xs (place_of f xs) ≡ puts f xs → put_at f (x ∷ xs) (cond t (suc (place_of f xs)) 0) ≡ cond t (x ∷ puts f xs) (cond (same x f) (x ∷ xs) (f ∷ x ∷ xs))
    go true ih = put_suc f x xs (place_of f xs) ∙ ap (λ (ys : List Fraction). x ∷ ys) ih
    go false ih = put_zero f x xs

higher : (x f : Fraction) → Reduced x → Reduced f → lower x f ≡ false → same x f ≡ false → lower f x ≡ true
higher x f r s h e = go (cases_Bool (lower f x))
  where
    go : (lower f x ≡ true) ⊎ (lower f x ≡ false) → lower f x ≡ true
    go (inl t) = t
    go (inr n) = absurd (both_ways (same x f) e (subst (λ (y : Fraction). same x y ≡ true) (lower_tie x f r s h n) (same_self x)))

-- into an ascending row whose first is lower
after : (f y : Fraction) (xs : List Fraction) → Reduced f → AllByRecursion Reduced xs → lower y f ≡ true → ascends (y ∷ xs) ≡ true → ascends (y ∷ puts f xs) ≡ true
after f y [] r h l a = and_from (lower y f) true l refl
after f y (x ∷ xs) r h l a =
    let u = and_parts (lower y x) (ascends (x ∷ xs)) a in
    cond_both (lower x f) (x ∷ puts f xs) (cond (same x f) (x ∷ xs) (f ∷ x ∷ xs)) (λ zs. ascends (y ∷ zs) ≡ true)
    (λ t. and_from (lower y x) (ascends (x ∷ puts f xs)) u.0 (after f x xs r h.1 t u.1))
    (λ n.
    cond_both (same x f) (x ∷ xs) (f ∷ x ∷ xs) (λ zs. ascends (y ∷ zs) ≡ true) (λ _. a)
    (λ e. and_from (lower y f) (lower f x && ascends (x ∷ xs)) l (and_from (lower f x) (ascends (x ∷ xs)) (higher x f h.0 r n e) u.1)))

puts_ascends : (f : Fraction) (xs : List Fraction) → Reduced f → AllByRecursion Reduced xs → ascends xs ≡ true → ascends (puts f xs) ≡ true
puts_ascends f [] r h a = refl
puts_ascends f (x ∷ xs) r h a =
    cond_both (lower x f) (x ∷ puts f xs) (cond (same x f) (x ∷ xs) (f ∷ x ∷ xs)) (λ zs. ascends zs ≡ true) (λ t. after f x xs r h.1 t a)
    (λ n.
    cond_both (same x f) (x ∷ xs) (f ∷ x ∷ xs) (λ zs. ascends zs ≡ true) (λ _. a)
    (λ e. and_from (lower f x) (ascends (x ∷ xs)) (higher x f h.0 r n e) a))

put_ascends : (f : Fraction) (xs : List Fraction) → Reduced f → AllByRecursion Reduced xs → ascends xs ≡ true → ascends (put f xs) ≡ true
unfolding put
put_ascends f xs r h a = subst (λ (ys : List Fraction). ascends ys ≡ true) (sym (put_is f xs)) (puts_ascends f xs r h a)

all_puts : (fs xs : List Fraction) → AllByRecursion Reduced fs → AllByRecursion Reduced xs → ascends xs ≡ true → ascends (put_all fs xs) ≡ true
all_puts [] xs h g a = a
all_puts (f ∷ fs) xs h g a =
    all_puts fs (put f xs) h.1 (put_in Reduced f xs h.0 g) (put_ascends f xs h.0 g a)

pub tidy_ascends : (xs : List Fraction) → AllByRecursion Reduced xs → ascends (tidy_of xs) ≡ true
unfolding tidy_of
tidy_ascends xs h = all_puts xs [] h tt refl

-- each is lower than each later one
abbrev pub Lower : Fraction → Fraction → Type 0
Lower a b = lower a b ≡ true

-- what is above the first is above a lower one
over_all : (y x : Fraction) (xs : List Fraction) → Reduced y → Reduced x → AllByRecursion Reduced xs → lower y x ≡ true → AllByRecursion (Lower x) xs → AllByRecursion (Lower y) xs
over_all y x [] r s h l a = tt
over_all y x (z ∷ zs) r s h l a = (lower_trans y x z r s h.0 l a.0, over_all y x zs r s h.1 l a.1)

pub ascends_pairs : (xs : List Fraction) → AllByRecursion Reduced xs → ascends xs ≡ true → Pairs Lower xs
ascends_pairs [] h a = tt
ascends_pairs (x ∷ []) h a = (tt, tt)
ascends_pairs (x ∷ y ∷ xs) h a =
    let u = and_parts (lower x y) (ascends (y ∷ xs)) a in
    let t = ascends_pairs (y ∷ xs) h.1 u.1 in
    ((u.0, over_all x y xs h.0 h.1.0 h.1.1 u.0 t.0), t)

pub pairs_ascends : (xs : List Fraction) → Pairs Lower xs → ascends xs ≡ true
pairs_ascends [] h = refl
pairs_ascends (x ∷ []) h = refl
pairs_ascends (x ∷ y ∷ xs) h = and_from (lower x y) (ascends (y ∷ xs)) h.0.0 (pairs_ascends (y ∷ xs) h.1)
