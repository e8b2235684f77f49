-- A sheet that is read part by part.
use Rattle.std.specs.Prelude.{◌≡◌, ℕ, ◌+◌, ◌-◌, List, [], ◌∷◌, length, drop, Ok, Err, Result, ⊤}
use Rattle.faults.specs.declared.fault.Fault.{Fault}
use Rattle.leaf.specs.declared.reader.Reader.{Reader}
use Rattle.faults.specs.Faults.{Answer, Fills, found, refused, at_byte, shown}

-- the whole sheet, and the place on it of the byte that comes next
abbrev pub sheet_of : Reader → List ℕ
sheet_of r = r.sheet.now

abbrev pub at_of : Reader → ℕ
at_of r = length r.sheet.now - length r.rest.now

-- the bytes that are not read yet
abbrev pub left_of : Reader → List ℕ
left_of r = drop (at_of r) (sheet_of r)

-- what a call read up to a byte, or its refusal
abbrev pub up_to : {A : Type 0} → Result A Fault → ℕ → Answer A
up_to (Ok x) end = found x end
up_to (Err f) end = refused (shown f)

abbrev pub up_to_as : {A B : Type 0} → (A → B) → Result A Fault → ℕ → Answer B
up_to_as meaning (Ok x) end = found (meaning x) end
up_to_as meaning (Err f) end = refused (shown f)

-- a part is read as a definition says of the sheet and the byte where the reader stood, and the reader stands behind it; the sheet stays
abbrev pub Reads : {A : Type 0} → (List ℕ → ℕ → Answer A) → Reader → Reader → Result A Fault → Type 0
Reads part old new r = (sheet_of new ≡ sheet_of old) × (up_to r (at_of new) ≡ part (sheet_of old) (at_of old))

-- the same, where what was read is told by what it stands for
abbrev pub ReadsAs : {A B : Type 0} → (A → B) → (List ℕ → ℕ → Answer B) → Reader → Reader → Result A Fault → Type 0
ReadsAs meaning part old new r = (sheet_of new ≡ sheet_of old) × (up_to_as meaning r (at_of new) ≡ part (sheet_of old) (at_of old))

-- the byte that stands there; where none does, the sheet ends too early
abbrev pub byte_in : ℕ → ℕ → List ℕ → Answer ℕ
byte_in end at [] = refused (at_byte 2 end)
byte_in end at (b ∷ bs) = found b (at + 1)

abbrev pub byte_at : List ℕ → ℕ → Answer ℕ
byte_at sheet at = byte_in (length sheet) at (drop at sheet)

-- a part fills the place lent, and the reader stands behind it; a refusal leaves the place as it was
abbrev pub ended : {A : Type 0} → Result A Fault → ℕ → Result ℕ Fault
ended (Ok _) end = Ok end
ended (Err f) end = Err f

abbrev pub ReadsInto : {A : Type 0} → (List ℕ → ℕ → Answer A) → Reader → Reader → A → A → Result ⊤ Fault → Type 0
ReadsInto part old new was is r = (sheet_of new ≡ sheet_of old) × Fills (part (sheet_of old) (at_of old)) was is (ended r (at_of new))
