-- A row is the front of an array: what holds at its places.
use Rattle.std.proofs.Common.{◌≡◌, ℕ, zero, suc, ◌+◌, ◌-◌, ◌<◌, ◌≤◌, Bool, true, false, not, cond, ltb, Some, None, Option, List, [], ◌∷◌, length, get_or, take, set, sym, refl, ap, ◌∙◌, ⊎_elim, arith}
use Rattle.std.proofs.lemmas.List.{get_or-take, length-take-le, length-set, get_or-set_same, get_or-set_other, ext_get_or}
use Rattle.std.proofs.lemmas.List.Edits.{length-remove, get_or-remove_below, get_or-remove_above, length-insert, get_or-insert_below, get_or-insert_at, get_or-insert_above}
use Rattle.std.proofs.lemmas.Bool.{cases_lt, cases_order, cond-true, cond-false, le-ltb, lt-ltb}
use Rattle.std.proofs.lemmas.List.Recursion.{is_position_or_len}
use Rattle.std.specs.Option.{unwrap_or}
use Rattle.std.specs.List.{insert, position_or_len, remove}
use Rattle.divisors.specs.declared.fraction.Fraction.{Fraction}
use Rattle.divisors.specs.Fractions.{lower, none}
use Rattle.divisors.specs.Lists.{place_of}

pub take_set_lt : (n : ℕ) (xs : List Fraction) (i : ℕ) (f : Fraction) → i < n → take n (set xs i f) ≡ set (take n xs) i f
take_set_lt zero xs i f h = absurd (omega arith)
take_set_lt (suc n) [] i f h = refl
take_set_lt (suc n) (x ∷ xs) zero f h = refl
take_set_lt (suc n) (x ∷ xs) (suc i) f h = ap (λ (ys : List Fraction). x ∷ ys) (take_set_lt n xs i f (omega arith))

-- the places behind `at` moved up by one
pub moved_up :
    (old now : List Fraction) (at n : ℕ) → at < n → n ≤ length old → length now ≡ length old →
    ((j : ℕ) → j < at → get_or now j none ≡ get_or old j none) →
    ((j : ℕ) → at ≤ j → j + 1 < n → get_or now j none ≡ get_or old (j + 1) none) →
    take (n - 1) now ≡ remove (take n old) at
moved_up old now at n h l size front moved =
    let all : length (take n old) ≡ n = length-take-le n old l in
    let less : length (take (n - 1) now) ≡ n - 1 = length-take-le (n - 1) now (omega (arith, size)) in
    let gone : length (remove (take n old) at) + 1 ≡ length (take n old) = length-remove (take n old) at (omega arith) in
    ext_get_or none (take (n - 1) now) (remove (take n old) at) (omega arith)
    (λ j g.
    get_or-take (n - 1) now j none (omega arith) ∙
    ⊎_elim
    (λ b. front j b ∙ sym (get_or-remove_below (take n old) at none j b (omega arith) ∙ get_or-take n old j none (omega arith)))
    (λ b. moved j b (omega arith) ∙ sym (get_or-remove_above (take n old) at none j b (omega arith) ∙ get_or-take n old (j + 1) none (omega arith)))
    (cases_lt j at))

-- the places from `at` on moved down by one
pub moved_down :
    (old now : List Fraction) (at n : ℕ) (f : Fraction) → at ≤ n → n < length old → length now ≡ length old →
    ((j : ℕ) → j < at → get_or now j none ≡ get_or old j none) →
    ((j : ℕ) → at ≤ j → j < n → get_or now (j + 1) none ≡ get_or old j none) →
    take (n + 1) (set now at f) ≡ insert (take n old) at f
moved_down old now at n f h l size front moved =
    let all : length (take n old) ≡ n = length-take-le n old (omega arith) in
    let same : length (set now at f) ≡ length now = length-set now at f in
    let more : length (take (n + 1) (set now at f)) ≡ n + 1 = length-take-le (n + 1) (set now at f) (omega (arith, size)) in
    let grown : length (insert (take n old) at f) ≡ length (take n old) + 1 = length-insert (take n old) at f (omega arith) in
    ext_get_or none (take (n + 1) (set now at f)) (insert (take n old) at f) (omega arith)
    (λ j g.
    get_or-take (n + 1) (set now at f) j none (omega arith) ∙
    ⊎_elim
    (λ e.
    ap (λ (i : ℕ). get_or (set now at f) i none) e ∙ get_or-set_same now at f none (omega (arith, size)) ∙
    sym (ap (λ (i : ℕ). get_or (insert (take n old) at f) i none) e ∙ get_or-insert_at (take n old) at f none (omega arith)))
    (λ w.
    ⊎_elim
    (λ b.
    get_or-set_other now at j f none (omega arith) ∙ front j b ∙
    sym (get_or-insert_below (take n old) at f none j b (omega arith) ∙ get_or-take n old j none (omega arith)))
    (λ b.
    let back : j ≡ (j - 1) + 1 = omega arith in
    get_or-set_other now at j f none (omega arith) ∙ ap (λ (i : ℕ). get_or now i none) back ∙ moved (j - 1) (omega arith) (omega arith) ∙
    sym
    (ap (λ (i : ℕ). get_or (insert (take n old) at f) i none) back ∙ get_or-insert_above (take n old) at f none (j - 1) (omega arith) (omega arith) ∙
    get_or-take n old (j - 1) none (omega arith)))
    w)
    (cases_order j at))

flipped : (b : Bool) (n : ℕ) → cond b (suc n) 0 ≡ cond (not b) 0 (1 + n)
flipped true n = omega arith
flipped false n = refl

bounded : (b : Bool) (n m : ℕ) → n ≤ m → cond b (suc n) 0 ≤ suc m
bounded true n m h = omega arith
bounded false n m h = omega arith

place_within : (f : Fraction) (xs : List Fraction) → place_of f xs ≤ length xs
place_within f [] = omega arith
place_within f (x ∷ xs) = bounded (lower x f) (place_of f xs) (length xs) (place_within f xs)

-- the place of f is the first that is not lower, or the end
pub place_or :
    (f : Fraction) (xs : List Fraction) →
    unwrap_or (cond (ltb (position_or_len (λ x. not (lower x f)) xs) (length xs)) (Some (position_or_len (λ x. not (lower x f)) xs)) None) (length xs) ≡ place_of f xs
place_or f xs =
    let p = position_or_len (λ x. not (lower x f)) xs in
    let n = length xs in
    let e : place_of f xs ≡ p = is_position_or_len (place_of f) (λ x. not (lower x f)) refl (λ x ys. flipped (lower x f) (place_of f ys)) xs in
    let b = place_within f xs in
    ⊎_elim
    (λ h. ap (λ (o : Option ℕ). unwrap_or o n) (cond-true (ltb p n) (Some p) None (lt-ltb p n h)) ∙ sym e)
    (λ h. let last : n ≡ place_of f xs = omega arith in ap (λ (o : Option ℕ). unwrap_or o n) (cond-false (ltb p n) (Some p) None (le-ltb p n h)) ∙ last) (cases_lt p n)
