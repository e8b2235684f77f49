-- The sheet that goes on where another stopped.
use Rattle.std.specs.Prelude.{◌≡◌, ℕ, min, List, ◌++◌, length, take, drop}
use Rattle.leaf.specs.Kind.{Kind}
use Rattle.list.specs.Encoded.{sheet_bytes}
use Rattle.amounts.specs.Amounts.{amounts}
use Rattle.days.specs.Days.{days}

-- the byte of the kind, if it lies before `start`, and the bytes from `start` on
abbrev pub rest_sheet : ℕ → List ℕ → List ℕ
rest_sheet start bytes = take (min start 1) bytes ++ drop start bytes

-- behind the first leaves of a sheet, however many, what goes on is the sheet of the others
abbrev pub GoesOn : {V L : Type 0} → Kind V L → Type 0
GoesOn k = (n b : ℕ) (ws : List k.Written) → rest_sheet (length (sheet_bytes k b (take n ws))) (sheet_bytes k b ws) ≡ sheet_bytes k b (drop n ws)

pub record BothGoOn : Type 0 where
  pub amount_sheets : GoesOn amounts
  pub day_sheets : GoesOn days

-- shut, so that callers go by the equation alone
unfoldable pub RestsGoOn : Type 0
RestsGoOn = BothGoOn
