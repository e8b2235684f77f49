-- What the program prints of a text.
use Rattle.std.specs.Prelude.{ℕ, List, ◌++◌, map, codes}
use Rattle.notation.specs.Numbered.{numbered}
use Rattle.notation.specs.Text.{lines_of}
use Rattle.fold.specs.Outcomes.{Outcome, outcome_of, tally}
use Rattle.fold.specs.Texts.{line_text, tally_text}

-- what the lines of a text come to
abbrev pub outcomes_of : List ℕ → List Outcome
outcomes_of text = map outcome_of (lines_of text)

-- what each line comes to, the lines numbered from 1, and then how many came to what
abbrev pub output_of : List ℕ → List ℕ
output_of text = numbered line_text 1 (outcomes_of text) ++ (tally_text (tally (outcomes_of text)) ++ codes "\n")
