-- A padded row is its fractions.
use Rattle.std.proofs.Common.{◌≡◌, ℕ, ◌+◌, ◌<◌, ◌≤◌, Bool, true, false, ◌&&◌, eqb, leb, List, [], ◌∷◌, ◌++◌, length, take, drop, set, Decides, sym, refl, ap, ◌∙◌, subst, ⊎_elim, arith, length-append, length-drop}
use Rattle.std.proofs.lemmas.List.{drop_at, length-set, take-append-drop}
use Rattle.std.proofs.lemmas.List.Folds.{list_all-append}
use Rattle.std.proofs.lemmas.Bool.Decides.{Decides-and, Decides-at, Decides-eqb, Decides-like}
use Rattle.std.proofs.lemmas.Slice.Eq.{slice_eq-Decides}
use Rattle.std.specs.Cmp.Lexicographic.{pointwise}
use Rattle.std.proofs.lemmas.Bool.{and_from, and_parts, both_ways, cases_Bool, eq-eqb, eqb-true, le-leb}
use Rattle.divisors.specs.declared.fraction.Fraction.{Fraction}
use Rattle.divisors.specs.declared.row.Row.{Row}
use Rattle.divisors.specs.Dividing.{thinned}
use Rattle.divisors.specs.Fractions.{none, same}
use Rattle.divisors.specs.Lists.{every}
use Rattle.divisors.specs.Rows.{fractions, is_folded, is_thinned, padded}
use Rattle.divisors.specs.Settled.{settled}
use Rattle.divisors.specs.Written.{FoldOf, ThinOf, are_in_range}
use Rattle.divisors.specs.Lemmas.Again.{barred_same, reduced_in_range, required_same}
use Rattle.divisors.specs.Lemmas.Fills.{blank_more}
use Rattle.divisors.specs.Lemmas.Settles.{settled_parts}
use Rattle.divisors.specs.Lemmas.Thins.{thinned_parts}
use Rattle.divisors.specs.Lemmas.Rows.{row_is}

-- tests of equivalent facts are equal
same_test : (a b : Bool) → (a ≡ true → b ≡ true) → (b ≡ true → a ≡ true) → a ≡ b
same_test true b f g = sym (f refl)
same_test false b f g = ⊎_elim (λ t. g t ∙ sym t) sym (cases_Bool b)

-- a row equals its list made again exactly if it holds a kept list
pub folded_test :
    (r again : Row) (b : Bool) → is_folded again ≡ true → FoldOf (fractions r) (fractions again) → Decides b (r ≡ again) → b ≡ is_folded r
folded_test r again b k f d =
    same_test b (is_folded r) (λ t. subst (λ (x : Row). is_folded x ≡ true) (sym (d.0 t)) k)
    (λ t.
    let u = and_parts (padded r) (settled (fractions r)) t in
    d.1
    (row_is r again u.0 (and_parts (padded again) (settled (fractions again)) k).0
    (sym (f.value ∙ required_same (fractions r) u.1))))

pub thinned_test :
    (r again : Row) (b : Bool) → is_thinned again ≡ true → ThinOf (fractions r) (fractions again) → Decides b (r ≡ again) → b ≡ is_thinned r
thinned_test r again b k f d =
    same_test b (is_thinned r) (λ t. subst (λ (x : Row). is_thinned x ≡ true) (sym (d.0 t)) k)
    (λ t.
    let u = and_parts (padded r) (thinned (fractions r)) t in
    d.1
    (row_is r again u.0 (and_parts (padded again) (thinned (fractions again)) k).0
    (sym (f.value ∙ barred_same (fractions r) u.1))))

-- a list out of range is no kept one
pub not_folded : (r : Row) → are_in_range (fractions r) ≡ false → false ≡ is_folded r
not_folded r e =
    ⊎_elim
    (λ t. absurd (both_ways (are_in_range (fractions r)) e (reduced_in_range (fractions r) (settled_parts (fractions r) (and_parts (padded r) (settled (fractions r)) t).1).reduced)))
    sym (cases_Bool (is_folded r))

pub not_thinned : (r : Row) → are_in_range (fractions r) ≡ false → false ≡ is_thinned r
not_thinned r e =
    ⊎_elim
    (λ t. absurd (both_ways (are_in_range (fractions r)) e (reduced_in_range (fractions r) (thinned_parts (fractions r) (and_parts (padded r) (thinned (fractions r)) t).1).reduced)))
    sym (cases_Bool (is_thinned r))

-- a fraction at the end of a padded row leaves it padded
pub padded_more :
    (r : Row) (f : Fraction) → r.count < 6 → padded r ≡ true → padded record { items = set r.items r.count f; count = r.count + 1 } ≡ true
padded_more r f n h =
    let a = and_parts (leb r.count 6) (eqb (length r.items) 6 && every (λ f. same f none) (drop r.count r.items)) h in
    let b = and_parts (eqb (length r.items) 6) (every (λ f. same f none) (drop r.count r.items)) a.1 in
    let size : length r.items ≡ 6 = eqb-true (length r.items) 6 b.0 in
    let l : leb (r.count + 1) 6 ≡ true = le-leb (r.count + 1) 6 (omega arith) in
    let e : eqb (length (set r.items r.count f)) 6 ≡ true = eq-eqb (length (set r.items r.count f)) 6 (length-set r.items r.count f ∙ size) in
    let m : every (λ g. same g none) (drop (r.count + 1) (set r.items r.count f)) ≡ true = blank_more r.items r.count f (omega arith) b.1 in
    and_from (leb (r.count + 1) 6) (eqb (length (set r.items r.count f)) 6 && every (λ g. same g none) (drop (r.count + 1) (set r.items r.count f))) l
    (and_from (eqb (length (set r.items r.count f)) 6) (every (λ g. same g none) (drop (r.count + 1) (set r.items r.count f))) e m)

-- a list of at most six, with free places behind it
pub padded_row : (xs : List Fraction) (n : ℕ) → n ≤ 6 → length xs ≡ n → padded record { items = xs ++ drop n (none ∷ none ∷ none ∷ none ∷ none ∷ none ∷ []); count = n } ≡ true
padded_row xs n h e =
    let ys : List Fraction = none ∷ none ∷ none ∷ none ∷ none ∷ none ∷ [] in
    let whole : length ys ≡ 6 = refl in
    let size : length (xs ++ drop n ys) ≡ 6 = omega (arith, length-append xs (drop n ys), length-drop n ys) in
    let free : every (λ f. same f none) (drop n ys) ≡ true =
    (and_parts (every (λ f. same f none) (take n ys)) (every (λ f. same f none) (drop n ys))
    (sym (list_all-append (λ f. same f none) (take n ys) (drop n ys)) ∙ ap (every (λ f. same f none)) (take-append-drop n ys))).1 in
    let behind : every (λ f. same f none) (drop n (xs ++ drop n ys)) ≡ true = ap (every (λ f. same f none)) (drop_at xs (drop n ys) n e) ∙ free in
    and_from (leb n 6) (eqb (length (xs ++ drop n ys)) 6 && every (λ f. same f none) (drop n (xs ++ drop n ys))) (le-leb n 6 h)
    (and_from (eqb (length (xs ++ drop n ys)) 6) (every (λ f. same f none) (drop n (xs ++ drop n ys))) (eq-eqb (length (xs ++ drop n ys)) 6 size) behind)

pub same_decides : (a b : Fraction) → Decides (same a b) (a ≡ b)
same_decides a b =
    Decides-like (same a b) (λ e i. record { p = e.0 i; q = e.1 i }) (λ e. (ap (λ (f : Fraction). f.p) e, ap (λ (f : Fraction). f.q) e))
    (Decides-and (eqb a.p b.p) (eqb a.q b.q) (Decides-eqb a.p b.p) (Decides-eqb a.q b.q))

-- what `==` says of two rows, where `==` decides whether two fractions are equal
pub row_decides :
    (E : Fraction → Fraction → Bool) → ((a b : Fraction) → Decides (E a b) (a ≡ b)) → (r s : Row) (t : Bool) → t ≡ (pointwise E r.items s.items && eqb r.count s.count) → Decides t (r ≡ s)
row_decides E d r s t e =
    let parts = Decides-and (pointwise E r.items s.items) (eqb r.count s.count) (slice_eq-Decides d r.items s.items (pointwise E r.items s.items) refl) (Decides-eqb r.count s.count) in
    Decides-like t (λ p i. record { items = p.0 i; count = p.1 i }) (λ p. (ap (λ (x : Row). x.items) p, ap (λ (x : Row). x.count) p))
    (Decides-at t (pointwise E r.items s.items && eqb r.count s.count) e parts)
