-- What the program prints of a text.
use Rattle.std.specs.Prelude.{ℕ, List, ◌++◌, map, codes}
use Rattle.notation.specs.Numbered.{numbered}
use Rattle.notation.specs.Text.{lines_of}
use Rattle.questions.specs.Outcomes.{Outcome, tally}
use Rattle.questions.specs.Texts.{outcome_text, tally_text}
use Rattle.ask.specs.declared.wrong.Wrong.{Wrong}
use Rattle.ask.specs.declared.wrong.Wrong.TheVariants.{Fields, MinimumAmount, MaximumAmount, Required, Barred, Amount, MinimumDate, MaximumDate, Weekdays, Date}
use Rattle.ask.specs.Lines.{line_outcome}

-- what is wrong with a line
abbrev pub wrong_text : Wrong → List ℕ
wrong_text Fields = codes "neither four nor five fields with a space between"
wrong_text MinimumAmount = codes "the minimum is no amount"
wrong_text MaximumAmount = codes "the maximum is no amount"
wrong_text Required = codes "the required list is no list of divisors"
wrong_text Barred = codes "the barred list is no list of divisors"
wrong_text Amount = codes "the value is no 64-bit amount"
wrong_text MinimumDate = codes "the minimum is no date"
wrong_text MaximumDate = codes "the maximum is no date"
wrong_text Weekdays = codes "the weekdays are no ascending digits from 1 to 7"
wrong_text Date = codes "the value is no date"

-- what the lines of a text come to
abbrev pub outcomes_of : List ℕ → List (Outcome Wrong)
outcomes_of text = map line_outcome (lines_of text)

-- what line k comes to as text
abbrev pub line_text : ℕ → Outcome Wrong → List ℕ
line_text = outcome_text wrong_text

-- what each line comes to, the lines numbered from 1, and then how many came to what
abbrev pub output_of : List ℕ → List ℕ
output_of text = numbered line_text 1 (outcomes_of text) ++ (tally_text (tally (outcomes_of text)) ++ codes "\n")
