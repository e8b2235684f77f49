-- The order of lists, item by item: what is left where one of them ends.
use Rattle.std.proofs.Common.{◌≡◌, ℕ, ◌+◌, ◌<◌, ◌≤◌, min, true, false, leb, List, ◌∷◌, length, get_or, drop, sym, ap, ◌∙◌, ⊎_elim, arith}
use Rattle.std.proofs.lemmas.List.{drop_more, drop_all}
use Rattle.std.proofs.lemmas.Bool.{cases_lt, le-leb, lt-leb}
use Rattle.divisors.specs.declared.fraction.Fraction.{Fraction}
use Rattle.divisors.specs.Fractions.{none}
use Rattle.divisors.specs.Lists.{at_most}

pub up_end : (xs ys : List Fraction) (i : ℕ) → length xs ≤ i → at_most (drop i xs) (drop i ys) ≡ at_most xs ys → true ≡ at_most xs ys
up_end xs ys i h inv = sym (ap (λ (us : List Fraction). at_most us (drop i ys)) (drop_all i xs h)) ∙ inv

pub up_short : (xs ys : List Fraction) (i : ℕ) → i < length xs → length ys ≤ i → at_most (drop i xs) (drop i ys) ≡ at_most xs ys → false ≡ at_most xs ys
up_short xs ys i h g inv =
    sym (ap (λ (us : List Fraction). at_most us (drop i ys)) (drop_more xs i none h) ∙ ap (λ (us : List Fraction). at_most (get_or xs i none ∷ drop (i + 1) xs) us) (drop_all i ys g)) ∙ inv

-- where one list has ended and all before tied, the shorter one is lower
pub up_decides : (xs ys : List Fraction) (i : ℕ) → i ≡ min (length xs) (length ys) → at_most (drop i xs) (drop i ys) ≡ at_most xs ys → leb (length xs) (length ys) ≡ at_most xs ys
up_decides xs ys i e inv =
    ⊎_elim
    (λ h. lt-leb (length xs) (length ys) h ∙ up_short xs ys i (omega arith) (omega arith) inv)
    (λ h. le-leb (length xs) (length ys) h ∙ up_end xs ys i (omega arith) inv) (cases_lt (length ys) (length xs))
