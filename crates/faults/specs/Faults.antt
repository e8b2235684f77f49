-- Refusals: the number of each in the table of refusals, the byte that it names, the layer that refused.
use Rattle.std.specs.Prelude.{◌≡◌, ℕ, cond, List, Some, None, Ok, Err, Option, Result, ◌==◌, codes, nat_lt}
use Rattle.faults.specs.declared.fault.Refusal.{Refusal}
use Rattle.faults.specs.declared.fault.Refusal.TheVariants.{TooLong, EndsEarly, BadNumber, UnknownByte, BadPart, ManyDivisors, OutOfRange, MinAboveMax, BadWeekdays, TableFull, ShortBuffer}
use Rattle.faults.specs.declared.fault.Layer.{Layer}
use Rattle.faults.specs.declared.fault.Layer.TheVariants.{Bytes, Leaf, List as ListLayer, Neither}
use Rattle.faults.specs.declared.fault.Fault.{Fault}

pub record Refused : Type 0 where
  pub number : ℕ
  pub byte : Option ℕ
  pub layer : Layer

-- what a reader answers: what it read and where that ends, or a refusal
pub data Answer (A : Type 0) : Type 0 where
  found : A → ℕ → Answer A
  refused : Refused → Answer A

abbrev pub number_of : Refusal → ℕ
number_of TooLong = 1
number_of EndsEarly = 2
number_of BadNumber = 3
number_of UnknownByte = 4
number_of BadPart = 5
number_of ManyDivisors = 6
number_of OutOfRange = 7
number_of MinAboveMax = 8
number_of BadWeekdays = 9
number_of TableFull = 10
number_of ShortBuffer = 11

-- the layer that refuses with a number: the bytes with 1 to 4, the leaf with 5 to 9, the list with 10, none with 11
abbrev pub layer_of : ℕ → Layer
layer_of n = cond (nat_lt n 5) Bytes (cond (nat_lt n 10) Leaf (cond (n == 10) ListLayer Neither))

-- a layer's name
abbrev pub layer_name : Layer → List ℕ
layer_name Bytes = codes "bytes"
layer_name Leaf = codes "leaf"
layer_name ListLayer = codes "list"
layer_name Neither = codes "-"

-- what a fault shows
abbrev pub shown : Fault → Refused
shown f = record { number = number_of f.refusal; byte = f.byte; layer = f.layer }

-- what was read fills the place lent, and a refusal leaves it as it was
abbrev pub Fills : {A : Type 0} → Answer A → A → A → Result ℕ Fault → Type 0
Fills (found x e) old new r = (r ≡ Ok e) × (new ≡ x)
Fills (refused f) old new (Ok e) = ⊥
Fills (refused f) old new (Err g) = (shown g ≡ f) × (new ≡ old)

-- what is read next begins where the last ended, and a refusal passes unchanged
abbrev pub next : {A B : Type 0} → Answer A → (A → ℕ → Answer B) → Answer B
next (found x e) f = f x e
next (refused r) f = refused r

-- a reader's result: what was read, and the place past it
abbrev pub seen : {A : Type 0} → Result (A × ℕ) Fault → Answer A
seen (Ok p) = found p.0 p.1
seen (Err f) = refused (shown f)

-- a maker's result
abbrev pub told : {A : Type 0} → Result A Fault → Result A Refused
told (Ok x) = Ok x
told (Err f) = Err (shown f)

-- the refusal that a result is, if it is one
abbrev pub refused_with : {A : Type 0} → Result A Fault → Option Refused
refused_with (Ok x) = None
refused_with (Err f) = Some (shown f)

-- a maker goes on with what it has, and a refusal passes unchanged
abbrev pub then : {A B : Type 0} → Result A Refused → (A → Result B Refused) → Result B Refused
then (Ok x) f = f x
then (Err r) f = Err r

-- the refusal with a number: at a byte, or naming none
abbrev pub refused_at : ℕ → Option ℕ → Refused
refused_at n b = record { number = n; byte = b; layer = layer_of n }

abbrev pub at_byte : ℕ → ℕ → Refused
at_byte n b = refused_at n (Some b)

abbrev pub unplaced : ℕ → Refused
unplaced n = refused_at n None
