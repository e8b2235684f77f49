-- What each call answers, and what is held then, by what is seen of a list. What stands in its table past the leaves held is not seen.
use Rattle.std.specs.Prelude.{ℕ, Bool, true, cond, ◌&&◌, List, length, None, Option, ◌==◌, slice_get}
use Rattle.faults.specs.Faults.{Refused}
use Rattle.leaf.specs.Kind.{Kind, admits}
use Rattle.list.specs.Lists.{any}
use Rattle.list.specs.Runs.Call.{insert, sheet, admits?, empty?, count, line}
use Rattle.list.specs.Runs.{Call, after, reading, taken}
use Rattle.list.specs.Sheets.{Outcome, full_at, sheet_outcome}

-- the places of the table, the leaves held, and whether nothing came since the last reading
pub record Seen (L : Type 0) : Type 0 where
  pub places : ℕ
  pub held : List L
  pub read : Bool

-- what a call answers: what refused it, what comes of a sheet, yes or no, how many lines, a line if there is one
abbrev pub Answered : {V L : Type 0} → Call V L → Type 0
Answered (insert x) = Option Refused
Answered {L = L} (sheet bytes) = Outcome L
Answered (admits? v) = Bool
Answered empty? = Bool
Answered count = ℕ
Answered {L = L} (line i) = Option L

module _ {V L : Type 0} (k : Kind V L) where
  -- the lines: what is held where nothing came since the last reading, else its reading
  abbrev pub lines_seen : Seen L → List L
  lines_seen s = cond s.read s.held (reading k s.held)

  abbrev pub answer_of : Seen L → (c : Call V L) → Answered c
  answer_of s (insert x) = full_at None s.places s.held
  answer_of s (sheet bytes) = sheet_outcome k s.places bytes s.held
  answer_of s (admits? v) = any (λ x. admits k x v) s.held
  answer_of s empty? = length s.held == 0
  answer_of s count = length (lines_seen s)
  answer_of s (line i) = slice_get (lines_seen s) i

  abbrev pub held_after : Seen L → Call V L → List L
  held_after s count = lines_seen s
  held_after s (line i) = lines_seen s
  held_after s c = after k s.places s.held c

  -- nothing came since the last reading, and the call accepts nothing; after a reading nothing has come
  abbrev pub read_after : Seen L → Call V L → Bool
  read_after s count = true
  read_after s (line i) = true
  read_after s c = (length (taken k s.places s.held c) == 0) && s.read
