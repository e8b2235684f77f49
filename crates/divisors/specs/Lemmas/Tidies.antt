-- A tidy row: what holds of its fractions, its length and its weight.
use Rattle.std.proofs.Common.{◌≡◌, ℕ, suc, ◌+◌, ◌<◌, ◌≤◌, true, eqb, ltb, List, [], ◌∷◌, ◌++◌, length, get_or, take, drop, set, sym, ap, subst, arith}
use Rattle.std.specs.List.{insert, remove, AllByRecursion}
use Rattle.std.proofs.lemmas.List.{take-append-drop, length-set}
use Rattle.std.proofs.lemmas.List.Edits.{length-insert}
use Rattle.std.proofs.ByRecursion.{All-append, All-take, All-drop, All-get_or}
use Rattle.std.proofs.lemmas.List.Sums.{sum_by-append, sum_by-cons, sum_by-take-drop, sum_by-set, sum_by-drop_more}
use Rattle.std.proofs.lemmas.Bool.{cond_both, and_parts, eqb-true, ltb-true}
use Rattle.divisors.specs.declared.folding.Pair.{Pair}
use Rattle.divisors.specs.declared.folding.Strip.{Strip}
use Rattle.divisors.specs.declared.fraction.Fraction.{Fraction}
use Rattle.divisors.specs.Folding.{FirstJoin, FirstStrip, heavy, joined_by, stripped_by, weight}
use Rattle.divisors.specs.Fractions.{lower, none, same}
use Rattle.divisors.specs.Lists.{place_of, put, put_all, stands, tidy_of}
use Rattle.divisors.specs.Lemmas.Joins.{join_parts}
use Rattle.divisors.specs.Lemmas.Strips.{strip_less}

all_parts : (P : Fraction → Type 0) (xs ys : List Fraction) → AllByRecursion P (xs ++ ys) → AllByRecursion P xs × AllByRecursion P ys
all_parts P [] ys h = (tt, h)
all_parts P (x ∷ xs) ys h = let t = all_parts P xs ys h.1 in ((h.0, t.0), t.1)

pub same_eq : (a b : Fraction) → same a b ≡ true → a ≡ b
same_eq a b e =
    let t = and_parts (eqb a.p b.p) (eqb a.q b.q) e in
    let p = eqb-true a.p b.p t.0 in
    let q = eqb-true a.q b.q t.1 in
    λ i. record { p = p i; q = q i }

pub put_in : (P : Fraction → Type 0) (f : Fraction) (xs : List Fraction) → P f → AllByRecursion P xs → AllByRecursion P (put f xs)
unfolding put
put_in P f xs h g =
    cond_both (stands f xs) xs (insert xs (place_of f xs) f) (AllByRecursion P) (λ _. g)
    (λ _. All-append P (take (place_of f xs) xs) (f ∷ drop (place_of f xs) xs) (All-take P (place_of f xs) xs g) (h, All-drop P (place_of f xs) xs g))

pub put_out : (P : Fraction → Type 0) (f : Fraction) (xs : List Fraction) → AllByRecursion P (put f xs) → P f × AllByRecursion P xs
unfolding put
put_out P f xs =
    cond_both (stands f xs) xs (insert xs (place_of f xs) f) (λ ys. AllByRecursion P ys → P f × AllByRecursion P xs)
    (λ e h.
    let t = and_parts (ltb (place_of f xs) (length xs)) (same (get_or xs (place_of f xs) none) f) e in
    (subst P (same_eq (get_or xs (place_of f xs) none) f t.1) (All-get_or P xs (place_of f xs) none (ltb-true (place_of f xs) (length xs) t.0) h), h))
    (λ e h.
    let t = all_parts P (take (place_of f xs) xs) (f ∷ drop (place_of f xs) xs) h in
    (t.1.0, subst (AllByRecursion P) (take-append-drop (place_of f xs) xs) (All-append P (take (place_of f xs) xs) (drop (place_of f xs) xs) t.0 t.1.1)))

puts_in : (P : Fraction → Type 0) (fs xs : List Fraction) → AllByRecursion P fs → AllByRecursion P xs → AllByRecursion P (put_all fs xs)
puts_in P [] xs h g = g
puts_in P (f ∷ fs) xs h g = puts_in P fs (put f xs) h.1 (put_in P f xs h.0 g)

puts_out : (P : Fraction → Type 0) (fs xs : List Fraction) → AllByRecursion P (put_all fs xs) → AllByRecursion P fs × AllByRecursion P xs
puts_out P [] xs h = (tt, h)
puts_out P (f ∷ fs) xs h =
    let t = puts_out P fs (put f xs) h in
    let u = put_out P f xs t.1 in
    ((u.0, t.0), u.1)

pub tidy_in : (P : Fraction → Type 0) (xs : List Fraction) → AllByRecursion P xs → AllByRecursion P (tidy_of xs)
unfolding tidy_of
tidy_in P xs h = puts_in P xs [] h tt

pub tidy_out : (P : Fraction → Type 0) (xs : List Fraction) → AllByRecursion P (tidy_of xs) → AllByRecursion P xs
unfolding tidy_of
tidy_out P xs h = (puts_out P xs [] h).0

place_within : (f : Fraction) (xs : List Fraction) → place_of f xs ≤ length xs
place_within f [] = omega arith
place_within f (x ∷ xs) =
    let h = place_within f xs in
    cond_both (lower x f) (suc (place_of f xs)) 0 (λ n. n ≤ suc (length xs)) (λ _. omega arith) (λ _. omega arith)

put_length : (f : Fraction) (xs : List Fraction) → length (put f xs) ≤ suc (length xs)
unfolding put
put_length f xs =
    cond_both (stands f xs) xs (insert xs (place_of f xs) f) (λ ys. length ys ≤ suc (length xs)) (λ _. omega arith)
    (λ _. omega (arith, length-insert xs (place_of f xs) f (place_within f xs)))

puts_length : (fs xs : List Fraction) → length (put_all fs xs) ≤ length fs + length xs
puts_length [] xs = omega arith
puts_length (f ∷ fs) xs = omega (arith, puts_length fs (put f xs), put_length f xs)

pub tidy_length : (xs : List Fraction) → length (tidy_of xs) ≤ length xs
unfolding tidy_of
tidy_length xs = omega (arith, puts_length xs [])

put_weight : (f : Fraction) (xs : List Fraction) → weight (put f xs) ≤ heavy f + weight xs
unfolding put
put_weight f xs =
    cond_both (stands f xs) xs (insert xs (place_of f xs) f) (λ ys. weight ys ≤ heavy f + weight xs) (λ _. omega arith)
    (λ _.
    omega (
      arith,
      sum_by-append heavy (take (place_of f xs) xs) (f ∷ drop (place_of f xs) xs),
      sum_by-cons heavy f (drop (place_of f xs) xs),
      sum_by-take-drop heavy xs (place_of f xs),
    ))

puts_weight : (fs xs : List Fraction) → weight (put_all fs xs) ≤ weight fs + weight xs
puts_weight [] xs = omega arith
puts_weight (f ∷ fs) xs = omega (arith, puts_weight fs (put f xs), put_weight f xs, sum_by-cons heavy f fs)

pub tidy_weight : (xs : List Fraction) → weight (tidy_of xs) ≤ weight xs
unfolding tidy_of
tidy_weight xs = omega (arith, puts_weight xs [])

removed_weight : (xs : List Fraction) (i : ℕ) → i < length xs → weight (remove xs i) + heavy (get_or xs i none) ≡ weight xs
removed_weight xs i h =
    let a = sum_by-append heavy (take i xs) (drop (suc i) xs) in
    let b = sum_by-take-drop heavy xs i in
    let d = sum_by-drop_more heavy xs i none h in
    let e : weight (drop (i + 1) xs) ≡ weight (drop (suc i) xs) = ap (λ (k : ℕ). weight (drop k xs)) (let q : i + 1 ≡ suc i = omega arith in q) in
    omega arith

pub join_weight : (xs : List Fraction) (t : Pair) → FirstJoin xs t → weight (tidy_of (joined_by t xs)) < weight xs
join_weight xs t h =
    let l = t.left in
    let r = t.right in
    let ys = set xs l t.join in
    let size : length ys ≡ length xs = length-set xs l t.join in
    let parts = join_parts (get_or xs l none) (get_or xs r none) t.join h.joins in
    let low : t.join.p ≤ 9223372036854775807 = subst (λ (f : Fraction). f.p ≤ 9223372036854775807) (sym parts.0) parts.1 in
    let a = tidy_weight (remove ys r) in
    let b = removed_weight ys r (omega (arith, h.within)) in
    let d = sum_by-set heavy xs l t.join none (omega (arith, h.ordered, h.within)) in
    omega arith

pub strip_weight : (xs : List Fraction) (t : Strip) → FirstStrip xs t → weight (tidy_of (stripped_by t xs)) < weight xs
strip_weight xs t h =
    let less = strip_less (get_or xs t.at none) (get_or xs t.by none) t.left h.strips in
    let a = tidy_weight (set xs t.at t.left) in
    let d = sum_by-set heavy xs t.at t.left none h.within in
    omega arith
