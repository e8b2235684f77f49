-- What a sheet comes to in a new list: the list's answer, and in text the lines and what refused it.
use Rattle.std.specs.Prelude.{◌≡◌, ℕ, Bool, true, false, List, [], ◌∷◌, ◌++◌, Some, None, vec_items, Option}
use Rattle.faults.specs.Faults.{Refused}
use Rattle.leaf.specs.Kind.{Kind}
use Rattle.texts.specs.Refusals.{refusal_text}
use Rattle.texts.specs.Text.{together}
use Rattle.list.specs.Held.{Tells}
use Rattle.list.specs.Runs.{lines}
use Rattle.list.specs.Runs.Call.{sheet}
use Rattle.list.specs.Sheets.{sheet_outcome}
use Rattle.amounts.specs.Amounts.{amounts}
use Rattle.amounts.specs.Text.{line_text as amount_text}
use Rattle.days.specs.Days.{days}
use Rattle.days.specs.Text.{line_text as day_text}
use Rattle.sheets.specs.declared.output.Printed.{Printed}

-- the text of a refusal, if there is one
abbrev pub stop_text : Option Refused → List ℕ
stop_text None = []
stop_text (Some r) = refusal_text r

-- the lines of a new list of n places that takes the sheet, then what refused it
unfoldable pub output_of : {V L : Type 0} → Kind V L → (L → List ℕ) → ℕ → List ℕ → List ℕ
output_of k text n bytes = together text (lines k n (sheet bytes ∷ [])) ++ stop_text (sheet_outcome k n bytes []).stop

pub record Prints {V L : Type 0} (k : Kind V L) (text : L → List ℕ) (n : ℕ) (bytes : List ℕ) (p : Printed) : Type 0 where
  pub answer : Tells p.answer (sheet_outcome k n bytes [])
  pub output : vec_items p.text ≡ output_of k text n bytes

-- a sheet of days begins with 44 (hexadecimal)
abbrev pub is_of_days : List ℕ → Bool
is_of_days [] = false
is_of_days (b ∷ bs) = days.kind_byte b

-- as a sheet of days or of amounts, in a table of 128 places
abbrev pub prints_as : Bool → List ℕ → Printed → Type 0
prints_as true bytes p = Prints days day_text 128 bytes p
prints_as false bytes p = Prints amounts amount_text 128 bytes p

abbrev pub prints_sheet : List ℕ → Printed → Type 0
prints_sheet bytes p = prints_as (is_of_days bytes) bytes p

-- what is printed of a sheet, as one of days or of amounts, in a table of 128 places
abbrev pub output_as : Bool → List ℕ → List ℕ
output_as true bytes = output_of days day_text 128 bytes
output_as false bytes = output_of amounts amount_text 128 bytes

abbrev pub sheet_output : List ℕ → List ℕ
sheet_output bytes = output_as (is_of_days bytes) bytes
