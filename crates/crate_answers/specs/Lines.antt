-- The lines of a sheet.
use Rattle.std.specs.Prelude.{ℕ, Bool, true, false, cond, ◌&&◌, List, [], ◌∷◌, map, is_none, ◌==◌}
use Rattle.std.specs.Str.{bytes_eq}
use Rattle.hex_text.specs.Hex.{hex_of}
use Rattle.leaf.specs.Kind.{Kind}
use Rattle.texts.specs.Text.{together}
use Rattle.list.specs.Runs.{lines}
use Rattle.list.specs.Runs.Call.{sheet}
use Rattle.list.specs.Sheets.{sheet_outcome}
use Rattle.amounts.specs.Amounts.{amounts}
use Rattle.amounts.specs.Text.{line_text as amount_text}
use Rattle.days.specs.Days.{days}
use Rattle.days.specs.Text.{line_text as day_text}
use Rattle.sheets.specs.Output.{is_of_days}
use Rattle.crate_answers.specs.Outcomes.{Outcome, or_malformed, same_if}

-- a semicolon for each line feed
abbrev pub in_one_line : List ℕ → List ℕ
in_one_line text = map (λ b. cond (b == 10) 59 b) text

-- nothing of the sheet is refused by a new list of 128 places, and its lines are these
abbrev pub has_lines : {V L : Type 0} → Kind V L → (L → List ℕ) → List ℕ → List ℕ → Bool
has_lines k text bytes answer = is_none (sheet_outcome k 128 bytes []).stop && bytes_eq (in_one_line (together text (lines k 128 (sheet bytes ∷ [])))) answer

-- as a sheet of days or of amounts
abbrev pub printed_as : Bool → List ℕ → List ℕ → Bool
printed_as true bytes answer = has_lines days day_text bytes answer
printed_as false bytes answer = has_lines amounts amount_text bytes answer

-- a sheet in hexadecimal, and its lines
abbrev pub lines_outcome : List ℕ → List ℕ → Outcome
lines_outcome question answer = or_malformed (hex_of question) (λ bytes. same_if (printed_as (is_of_days bytes) bytes answer))
