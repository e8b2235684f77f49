-- Kept lists are no longer than the divisors as written.
use Rattle.std.proofs.Common.{◌≡◌, suc, ◌≤◌, Bool, not, List, [], ◌∷◌, map, length, filter, ltb, refl, ap, arith}
use Rattle.std.proofs.lemmas.Bool.{cond_both}
use Rattle.divisors.specs.declared.fraction.Fraction.{Fraction}
use Rattle.divisors.specs.Dividing.{divided, thin_of}
use Rattle.divisors.specs.Fractions.{reduce_of}
use Rattle.divisors.specs.Lists.{tidy_of}
use Rattle.divisors.specs.Written.{barred_of, lowest_above, over_integers, required_of}
use Rattle.divisors.specs.Lemmas.Folds.{fold_shorter}
use Rattle.divisors.specs.Lemmas.Tidies.{tidy_length}

kept_length : (p : Fraction → Bool) (xs : List Fraction) → length (filter p xs) ≤ length xs
kept_length p [] = omega arith
kept_length p (x ∷ xs) =
    let h = kept_length p xs in
    cond_both (p x) (x ∷ filter p xs) (filter p xs) (λ ys. length ys ≤ suc (length xs)) (λ _. omega arith) (λ _. omega arith)

map_length : (ws : List Fraction) → length (map reduce_of ws) ≡ length ws
map_length [] = refl
map_length (w ∷ ws) = ap suc (map_length ws)

pub required_length : (ws : List Fraction) → length (required_of ws) ≤ length ws
unfolding required_of
required_length ws =
    omega (
      arith,
      fold_shorter (over_integers ws),
      tidy_length (lowest_above 1 ws),
      kept_length (λ f. ltb 1 f.p) (map reduce_of ws),
      map_length ws,
    )

pub barred_length : (ws : List Fraction) → length (barred_of ws) ≤ length ws
unfolding barred_of thin_of
barred_length ws =
    let xs = tidy_of (map reduce_of ws) in
    omega (arith, kept_length (λ x. not (divided xs x)) xs, tidy_length (map reduce_of ws), map_length ws)
