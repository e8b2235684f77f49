-- What a line of the input comes to: a word, a space, a question, an equals sign and the answer of the Rust crate.
use Rattle.std.specs.Prelude.{ℕ, Bool, cond, List, codes}
use Rattle.std.specs.Str.{bytes_eq}
use Rattle.notation.specs.Text.{split_at_first}
use Rattle.crate_answers.specs.Admissions.{admission_outcome}
use Rattle.crate_answers.specs.Folds.{fold_outcome}
use Rattle.crate_answers.specs.Lines.{lines_outcome}
use Rattle.crate_answers.specs.Outcomes.{Outcome, malformed, or_malformed}
use Rattle.crate_answers.specs.Outcomes.{is_same as is_same_outcome}

-- by the word
abbrev pub worded : List ℕ → List ℕ → List ℕ → Outcome
worded word question answer =
    cond (bytes_eq word (codes "lines")) (lines_outcome question answer)
    (cond (bytes_eq word (codes "fold")) (fold_outcome question answer) (cond (bytes_eq word (codes "admit")) (admission_outcome question answer) malformed))

abbrev pub outcome_of : List ℕ → Outcome
outcome_of line = or_malformed (split_at_first 32 line) (λ p. or_malformed (split_at_first 61 p.1) (λ q. worded p.0 q.0 q.1))

-- a line of another form has no answer that is the same
abbrev pub is_same : List ℕ → Bool
is_same line = is_same_outcome (outcome_of line)
