-- A padded row is the row of its list, and the row of a list of at most six is padded.
use Rattle.std.proofs.Common.{◌≡◌, ℕ, zero, suc, ◌-◌, ◌≤◌, true, ◌&&◌, List, [], ◌∷◌, ◌++◌, length, take, drop, eqb, leb, sym, ap, ◌∙◌, refl, arith, length-append, length-drop}
use Rattle.std.specs.Prelude.{replicate}
use Rattle.std.proofs.lemmas.List.{length-replicate, length-take-le, take-append-drop}
use Rattle.std.proofs.lemmas.Bool.{and_from, and_parts, eq-eqb, eqb-true, le-leb, leb-true}
use Rattle.divisors.specs.declared.fraction.Fraction.{Fraction}
use Rattle.divisors.specs.declared.row.Row.{Row}
use Rattle.divisors.specs.Fractions.{none, same}
use Rattle.divisors.specs.Lists.{every}
use Rattle.divisors.specs.Rows.{fractions, padded, row_of}
use Rattle.divisors.specs.Lemmas.Tidies.{same_eq}

blanks : (xs : List Fraction) → every (λ f. same f none) xs ≡ true → xs ≡ replicate (length xs) none
blanks [] h = refl
blanks (x ∷ xs) h =
    let u = and_parts (same x none) (every (λ f. same f none) xs) h in
    let e : x ≡ none = same_eq x none u.0 in
    let k = blanks xs u.1 in
    λ i. e i ∷ k i

pub row_of_lem : (r : Row) (fs : List Fraction) → padded r ≡ true → fractions r ≡ fs → r ≡ row_of fs
row_of_lem r fs h e =
    let a = and_parts (leb r.count 6) (eqb (length r.items) 6 && every (λ f. same f none) (drop r.count r.items)) h in
    let b = and_parts (eqb (length r.items) 6) (every (λ f. same f none) (drop r.count r.items)) a.1 in
    let few : r.count ≤ 6 = leb-true r.count 6 a.0 in
    let size : length r.items ≡ 6 = eqb-true (length r.items) 6 b.0 in
    let n : r.count ≡ length fs = sym (length-take-le r.count r.items (omega arith)) ∙ ap length e in
    let left : length (drop r.count r.items) ≡ 6 - length fs = let d = length-drop r.count r.items in omega arith in
    let whole : r.items ≡ fs ++ replicate (6 - length fs) none =
    sym (take-append-drop r.count r.items) ∙ (ap (λ (xs : List Fraction). xs ++ drop r.count r.items) e ∙
    ap (λ (xs : List Fraction). fs ++ xs) (blanks (drop r.count r.items) b.1 ∙ ap (λ (k : ℕ). replicate k none) left)) in
    λ k. record { items = whole k; count = n k }

pub row_is : (r s : Row) → padded r ≡ true → padded s ≡ true → fractions r ≡ fractions s → r ≡ s
row_is r s h i e = row_of_lem r (fractions s) h e ∙ sym (row_of_lem s (fractions s) i refl)

take_front : (xs ys : List Fraction) → take (length xs) (xs ++ ys) ≡ xs
take_front [] ys = refl
take_front (x ∷ xs) ys = ap (λ (zs : List Fraction). x ∷ zs) (take_front xs ys)

drop_front : (xs ys : List Fraction) → drop (length xs) (xs ++ ys) ≡ ys
drop_front [] ys = refl
drop_front (x ∷ xs) ys = drop_front xs ys

pub row_fractions : (xs : List Fraction) → fractions (row_of xs) ≡ xs
row_fractions xs = take_front xs (replicate (6 - length xs) none)

all_blank : (n : ℕ) → every (λ f. same f none) (replicate n none) ≡ true
all_blank zero = refl
all_blank (suc n) = all_blank n

pub row_padded : (xs : List Fraction) → length xs ≤ 6 → padded (row_of xs) ≡ true
row_padded xs h =
    let free = replicate (6 - length xs) none in
    let size : length (xs ++ free) ≡ 6 = length-append xs free ∙ (let r = length-replicate (6 - length xs) none in omega arith) in
    and_from (leb (length xs) 6) (eqb (length (xs ++ free)) 6 && every (λ f. same f none) (drop (length xs) (xs ++ free))) (le-leb (length xs) 6 h)
    (and_from (eqb (length (xs ++ free)) 6) (every (λ f. same f none) (drop (length xs) (xs ++ free))) (eq-eqb (length (xs ++ free)) 6 size)
    (ap (every (λ f. same f none)) (drop_front xs free) ∙ all_blank (6 - length xs)))
