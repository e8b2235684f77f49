-- Members of a row, and tests over a row.
use Rattle.std.proofs.Common.{◌≡◌, ℕ, zero, suc, ◌<◌, Bool, Contains, true, ◌⊎◌, List, [], ◌∷◌, length, get_or, filter, sym, refl, ap, ◌∙◌, subst, inl, inr, arith}
use Rattle.std.specs.List.{AllByRecursion}
use Rattle.std.proofs.lemmas.Bool.{and_parts, and_from, or_cases, or_left, or_right, both_ways, false≢true, cond_both}
use Rattle.divisors.specs.declared.fraction.Fraction.{Fraction}
use Rattle.divisors.specs.Fractions.{Multiple, none}
use Rattle.divisors.specs.Lists.{every, some}

-- a whole number is a multiple of each
abbrev pub Multiples : List Fraction → ℕ → Type 0
Multiples xs n = AllByRecursion (λ f. Multiple f n) xs

-- a whole number is a multiple of none
abbrev pub NoMultiples : List Fraction → ℕ → Type 0
NoMultiples xs n = AllByRecursion (λ f. Multiple f n → ⊥) xs

abbrev pub In : Fraction → List Fraction → Type 0
In x [] = ⊥
In x (y ∷ ys) = (x ≡ y) ⊎ In x ys

pub in_contains : (x : Fraction) (xs : List Fraction) → In x xs → Contains xs x
in_contains x [] i = absurd i
in_contains x (y ∷ ys) (inl e) = (0, omega arith, sym e)
in_contains x (y ∷ ys) (inr i) = let c = in_contains x ys i in (suc c.0, let l = c.1 in omega arith, c.2)

pub contains_in : (x : Fraction) (xs : List Fraction) → Contains xs x → In x xs
contains_in x [] c = let l = c.1 in absurd (omega arith)
contains_in x (y ∷ ys) (zero, l, e) = inl (sym e)
contains_in x (y ∷ ys) (suc k, l, e) = inr (contains_in x ys (k, omega arith, e))

-- R from each to each later one
abbrev pub Pairs : (Fraction → Fraction → Type 0) → List Fraction → Type 0
Pairs R [] = Unit {0}
Pairs R (x ∷ xs) = AllByRecursion (R x) xs × Pairs R xs

pub all_in : (P : Fraction → Type 0) (xs : List Fraction) → AllByRecursion P xs → (x : Fraction) → In x xs → P x
all_in P [] h x i = absurd i
all_in P (y ∷ ys) h x (inl e) = subst P (sym e) h.0
all_in P (y ∷ ys) h x (inr i) = all_in P ys h.1 x i

pub in_all : (P : Fraction → Type 0) (xs : List Fraction) → ((x : Fraction) → In x xs → P x) → AllByRecursion P xs
in_all P [] f = tt
in_all P (y ∷ ys) f = (f y (inl refl), in_all P ys (λ x i. f x (inr i)))

pub every_in : (p : Fraction → Bool) (xs : List Fraction) → every p xs ≡ true → (x : Fraction) → In x xs → p x ≡ true
every_in p [] h x i = absurd i
every_in p (y ∷ ys) h x (inl e) = ap p e ∙ (and_parts (p y) (every p ys) h).0
every_in p (y ∷ ys) h x (inr i) = every_in p ys (and_parts (p y) (every p ys) h).1 x i

pub in_every : (p : Fraction → Bool) (xs : List Fraction) → ((x : Fraction) → In x xs → p x ≡ true) → every p xs ≡ true
in_every p [] f = refl
in_every p (y ∷ ys) f = and_from (p y) (every p ys) (f y (inl refl)) (in_every p ys (λ x i. f x (inr i)))

-- a test of each place is a test of each
pub every_at : (p : Fraction → Bool) (xs : List Fraction) → ((k : ℕ) → k < length xs → p (get_or xs k none) ≡ true) → every p xs ≡ true
every_at p [] f = refl
every_at p (y ∷ ys) f = and_from (p y) (every p ys) (f 0 (omega arith)) (every_at p ys (λ k h. f (suc k) (omega arith)))

pub some_in : (p : Fraction → Bool) (xs : List Fraction) (x : Fraction) → In x xs → p x ≡ true → some p xs ≡ true
some_in p [] x i h = absurd i
some_in p (y ∷ ys) x (inl e) h = or_left (p y) (some p ys) (ap p (sym e) ∙ h)
some_in p (y ∷ ys) x (inr i) h = or_right (p y) (some p ys) (some_in p ys x i h)

pub in_some : (p : Fraction → Bool) (xs : List Fraction) → some p xs ≡ true → (x : Fraction) × In x xs × (p x ≡ true)
in_some p [] h = absurd (false≢true h)
in_some p (y ∷ ys) h = go (or_cases (p y) (some p ys) h) (in_some p ys)
  where
    go : (p y ≡ true) ⊎ (some p ys ≡ true) → (some p ys ≡ true → (x : Fraction) × In x ys × (p x ≡ true)) → (x : Fraction) × In x (y ∷ ys) × (p x ≡ true)
    go (inl e) f = (y, inl refl, e)
    go (inr e) f = let t = f e in (t.0, inr t.1, t.2)

pub pairs_two : (R : Fraction → Fraction → Type 0) (xs : List Fraction) → Pairs R xs → (x y : Fraction) → In x xs → In y xs → (x ≡ y) ⊎ (R x y ⊎ R y x)
pairs_two R [] h x y i j = absurd i
pairs_two R (z ∷ zs) h x y (inl d) (inl e) = inl (d ∙ sym e)
pairs_two R (z ∷ zs) h x y (inl d) (inr j) = inr (inl (subst (λ (w : Fraction). R w y) (sym d) (all_in (R z) zs h.0 y j)))
pairs_two R (z ∷ zs) h x y (inr i) (inl e) = inr (inr (subst (λ (w : Fraction). R w x) (sym e) (all_in (R z) zs h.0 x i)))
pairs_two R (z ∷ zs) h x y (inr i) (inr j) = pairs_two R zs h.1 x y i j

-- two rows in strict order with the same members are equal
pub pairs_unique :
    (R : Fraction → Fraction → Type 0) → ((x : Fraction) → R x x → ⊥) → ((x y : Fraction) → R x y → R y x → ⊥) →
    (xs ys : List Fraction) → Pairs R xs → Pairs R ys → ((x : Fraction) → In x xs → In x ys) → ((x : Fraction) → In x ys → In x xs) → xs ≡ ys
pairs_unique R irr asym [] [] h i f g = refl
pairs_unique R irr asym [] (y ∷ ys) h i f g = absurd (g y (inl refl))
pairs_unique R irr asym (x ∷ xs) [] h i f g = absurd (f x (inl refl))
pairs_unique R irr asym (x ∷ xs) (y ∷ ys) h i f g =
    let e : x ≡ y = heads (f x (inl refl)) (g y (inl refl)) in
    λ t. e t ∷ pairs_unique R irr asym xs ys h.1 i.1 (λ z j. right e z j (f z (inr j))) (λ z j. left e z j (g z (inr j))) t
  where
    heads : In x (y ∷ ys) → In y (x ∷ xs) → x ≡ y
    heads (inl e) b = e
    heads (inr a) (inl e) = sym e
    heads (inr a) (inr b) = absurd (asym x y (all_in (R x) xs h.0 y b) (all_in (R y) ys i.0 x a))

    right : x ≡ y → (z : Fraction) → In z xs → In z (y ∷ ys) → In z ys
    right e z j (inl d) = absurd (irr x (subst (R x) (d ∙ sym e) (all_in (R x) xs h.0 z j)))
    right e z j (inr b) = b

    left : x ≡ y → (z : Fraction) → In z ys → In z (x ∷ xs) → In z xs
    left e z j (inl d) = absurd (irr y (subst (R y) (d ∙ e) (all_in (R y) ys i.0 z j)))
    left e z j (inr b) = b

-- what a filter keeps
pub kept_pairs : (R : Fraction → Fraction → Type 0) (p : Fraction → Bool) (xs : List Fraction) → ((P : Fraction → Type 0) (ys : List Fraction) → AllByRecursion P ys → AllByRecursion P (filter p ys)) → Pairs R xs → Pairs R (filter p xs)
kept_pairs R p [] a h = tt
kept_pairs R p (x ∷ xs) a h =
    cond_both (p x) (x ∷ filter p xs) (filter p xs) (Pairs R) (λ _. (a (R x) xs h.0, kept_pairs R p xs a h.1)) (λ _. kept_pairs R p xs a h.1)

pub kept_in : (p : Fraction → Bool) (xs : List Fraction) (x : Fraction) → In x xs → p x ≡ true → In x (filter p xs)
kept_in p [] x i e = absurd i
kept_in p (y ∷ ys) x (inl q) e =
    cond_both (p y) (y ∷ filter p ys) (filter p ys) (In x) (λ _. inl q) (λ f. absurd (both_ways (p y) f (ap p (sym q) ∙ e)))
kept_in p (y ∷ ys) x (inr i) e =
    cond_both (p y) (y ∷ filter p ys) (filter p ys) (In x) (λ _. inr (kept_in p ys x i e)) (λ _. kept_in p ys x i e)

pub in_kept : (p : Fraction → Bool) (xs : List Fraction) (x : Fraction) → In x (filter p xs) → In x xs × (p x ≡ true)
in_kept p [] x = λ i. absurd i
in_kept p (y ∷ ys) x =
    cond_both (p y) (y ∷ filter p ys) (filter p ys) (λ l. In x l → In x (y ∷ ys) × (p x ≡ true))
    (λ t i. here t i (in_kept p ys x)) (λ _ i. let r = in_kept p ys x i in (inr r.0, r.1))
  where
    here : p y ≡ true → In x (y ∷ filter p ys) → (In x (filter p ys) → In x ys × (p x ≡ true)) → In x (y ∷ ys) × (p x ≡ true)
    here t (inl e) f = (inl e, ap p e ∙ t)
    here t (inr i) f = let r = f i in (inr r.0, r.1)
