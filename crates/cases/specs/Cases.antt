-- The answer that a case expects of a list to its sheet.
use Rattle.std.specs.Prelude.{ℕ, Bool, true, false, cond, List, [], length, Some, None, Option}
use Rattle.std.specs.Str.{bytes_eq}
use Rattle.leaf.specs.Kind.{Kind}
use Rattle.hex_text.specs.Hex.{hex_of}
use Rattle.notation.specs.Text.{is_dash, split_at_first}
use Rattle.list.specs.Sheets.{sheet_outcome}
use Rattle.amounts.specs.Amounts.{amounts}
use Rattle.amounts.specs.Text.{line_text as amount_text}
use Rattle.days.specs.Days.{days}
use Rattle.days.specs.Text.{line_text as day_text}
use Rattle.sheets.specs.Output.{is_of_days, output_of as printed}
use Rattle.cases.specs.Texts.{answer_text}

-- the answer of a new list of 128 places to a sheet, as days or as amounts
abbrev pub answer_of : {V L : Type 0} → Kind V L → (L → List ℕ) → List ℕ → List ℕ
answer_of k text bytes = answer_text (length (sheet_outcome k 128 bytes []).taken) (sheet_outcome k 128 bytes []).start (sheet_outcome k 128 bytes []).stop (printed k text 128 bytes)

abbrev pub answer_as : Bool → List ℕ → List ℕ
answer_as true bytes = answer_of days day_text bytes
answer_as false bytes = answer_of amounts amount_text bytes

abbrev pub answer_to : List ℕ → List ℕ
answer_to bytes = answer_as (is_of_days bytes) bytes

-- the bytes that a text writes, a dash for none
abbrev pub bytes_of : List ℕ → Option (List ℕ)
bytes_of text = cond (is_dash text) (Some []) (hex_of text)

-- a sheet and behind a space its answer
abbrev pub answers : List ℕ → Option (List ℕ) → Bool
answers expected None = false
answers expected (Some bytes) = bytes_eq (answer_to bytes) expected

abbrev pub answers_in : Option (List ℕ × List ℕ) → Bool
answers_in None = false
answers_in (Some p) = answers p.1 (bytes_of p.0)

-- whether the sheet of a case has the answer that is expected of it
abbrev pub is_as_expected : List ℕ → Bool
is_as_expected line = answers_in (split_at_first 32 line)
