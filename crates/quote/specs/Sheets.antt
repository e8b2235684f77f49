-- Sheets taken one after another, each into the list of its kind: those that begin as sheets of days into one, all others into one of amounts.
use Rattle.std.specs.Prelude.{ℕ, ◌+◌, Bool, true, false, not, List, [], ◌∷◌, ◌++◌, map, filter, length, ℤ, Some, None, Option}
use Rattle.faults.specs.Faults.{Refused}
use Rattle.list.specs.Runs.{Call, accepted, lines, run}
use Rattle.list.specs.Runs.Call.{sheet}
use Rattle.list.specs.Sheets.{sheet_outcome}
use Rattle.amounts.specs.declared.amount_leaf.AmountLeaf.{AmountLeaf}
use Rattle.amounts.specs.Amounts.{amounts}
use Rattle.days.specs.declared.day_leaf.DayLeaf.{DayLeaf}
use Rattle.days.specs.Days.{days}
use Rattle.sheets.specs.Output.{is_of_days}

-- the calls that take the sheets of each kind
abbrev pub amount_run : List (List ℕ) → List (Call ℤ AmountLeaf)
amount_run sheets = map sheet (filter (λ bytes. not (is_of_days bytes)) sheets)

abbrev pub day_run : List (List ℕ) → List (Call ℕ DayLeaf)
day_run sheets = map sheet (filter is_of_days sheets)

-- the lines of each kind, of a table of 1,024 places
abbrev pub amount_lines : List (List ℕ) → List AmountLeaf
amount_lines sheets = lines amounts 1024 (amount_run sheets)

abbrev pub day_lines : List (List ℕ) → List DayLeaf
day_lines sheets = lines days 1024 (day_run sheets)

-- how many leaves were accepted
abbrev pub leaves_accepted : List (List ℕ) → ℕ
leaves_accepted sheets = length (accepted amounts 1024 (amount_run sheets)) + length (accepted days 1024 (day_run sheets))

-- what refuses a sheet that is taken after those before it, if anything does
abbrev pub stop_as : Bool → List (List ℕ) → List ℕ → Option Refused
stop_as true before bytes = (sheet_outcome days 1024 bytes (run days 1024 (day_run before))).stop
stop_as false before bytes = (sheet_outcome amounts 1024 bytes (run amounts 1024 (amount_run before))).stop

abbrev pub stop_after : List (List ℕ) → List ℕ → Option Refused
stop_after before bytes = stop_as (is_of_days bytes) before bytes

abbrev pub one_if : Option Refused → ℕ
one_if None = 0
one_if (Some r) = 1

-- how many of the sheets were refused, where others were taken before them
abbrev pub refusals_after : List (List ℕ) → List (List ℕ) → ℕ
refusals_after before [] = 0
refusals_after before (bytes ∷ sheets) = one_if (stop_after before bytes) + refusals_after (before ++ bytes ∷ []) sheets
