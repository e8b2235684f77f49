-- Divisors folded and thinned.
use Rattle.std.specs.Prelude.{ℕ, Bool, ◌&&◌, List, is_none, Option, option_and_then}
use Rattle.std.specs.Option.{option_map}
use Rattle.std.specs.Cmp.Lexicographic.{pointwise}
use Rattle.divisors.specs.declared.fraction.Fraction.{Fraction}
use Rattle.divisors.specs.Fractions.{same}
use Rattle.divisors.specs.Written.{barred_of, refusal_of, required_of}
use Rattle.notation.specs.Text.{divisors_of, split_at_first}
use Rattle.crate_answers.specs.Outcomes.{Outcome, or_malformed, same_if}

-- the two lists that a text writes, if it writes two with a space between
abbrev pub kept_lists : List ℕ → Option (List Fraction × List Fraction)
kept_lists text = option_and_then (λ p. option_and_then (λ xs. option_map (λ ys. (xs, ys)) (divisors_of p.1)) (divisors_of p.0)) (split_at_first 32 text)

-- neither list is refused, the required divisors fold to these, and the barred ones thin to these
abbrev pub folds_to : List Fraction → List Fraction → List Fraction → List Fraction → Bool
folds_to required barred folded thinned =
    is_none (refusal_of required) && (is_none (refusal_of barred) && (pointwise same (required_of required) folded && pointwise same (barred_of barred) thinned))

-- a required and a barred list, and what is kept of them
abbrev pub fold_outcome : List ℕ → List ℕ → Outcome
fold_outcome question answer = or_malformed (kept_lists question) (λ w. or_malformed (kept_lists answer) (λ k. same_if (folds_to w.0 w.1 k.0 k.1)))
