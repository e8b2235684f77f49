-- What callers in C are shown.
use Rattle.std.specs.Prelude.{◌≡◌, ℕ, ◌-◌, ◌≤◌, Bool, true, false, cond, List, [], ◌∷◌, length, take, drop, replicate, Some, None, vec_items, Option}
use Rattle.divisors.specs.declared.fraction.Fraction.{Fraction}
use Rattle.divisors.specs.Fractions.{none}
use Rattle.faults.specs.Faults.{Refused}
use Rattle.leaf.specs.Kind.{Kind, admits}
use Rattle.list.specs.Held.{stopped}
use Rattle.list.specs.Lists.{any}
use Rattle.list.specs.Runs.{lines, run}
use Rattle.list.specs.Runs.Call.{sheet}
use Rattle.list.specs.Sheets.{Outcome, sheet_outcome}
use Rattle.list.specs.declared.sheets.SheetAnswer.{SheetAnswer}
use Rattle.amounts.specs.Amounts.{amounts}
use Rattle.amounts.specs.Text.{line_text as amount_text}
use Rattle.days.specs.Days.{days}
use Rattle.days.specs.Text.{line_text as day_text}
use Rattle.sheets.specs.Output.{is_of_days, output_of}
use Rattle.sheets.specs.declared.output.Printed.{Printed}
use Rattle.texts.specs.Text.{fitting, over}
use Rattle.foreign.specs.declared.asking.Answer.{Answer}
use Rattle.foreign.specs.declared.lists.Divisors.{Divisors}
use Rattle.foreign.specs.declared.taken.Taken.{Taken}
use Rattle.foreign.specs.declared.text.SheetText.{SheetText}

-- the divisors handed out, in the first places of six, and 0/0 in those behind
pub record Hands (xs : List Fraction) (d : Divisors) : Type 0 where
  pub refusal : d.refusal ≡ 0
  pub few : d.count ≤ 6
  pub kept : take d.count d.places ≡ xs
  pub free : drop d.count d.places ≡ replicate (6 - d.count) none

-- no divisor, and what refused the list
pub record HandsNone (number : ℕ) (d : Divisors) : Type 0 where
  pub refusal : d.refusal ≡ number
  pub none_kept : d.count ≡ 0
  pub free : d.places ≡ replicate 6 none

-- a list with a property, or the number of what refused it and no divisor
abbrev pub Holds : Option Refused → (List Fraction → Type 0) → Divisors → Type 0
Holds None P d = (xs : List Fraction) × Hands xs d × P xs
Holds (Some r) P d = HandsNone r.number d

-- the number of a refusal, 0 for none
abbrev pub number_in : Option Refused → ℕ
number_in None = 0
number_in (Some r) = r.number

abbrev pub or_zero : Option ℕ → ℕ
or_zero None = 0
or_zero (Some n) = n

-- the byte that a refusal names, 0 for none
abbrev pub byte_in : Option Refused → ℕ
byte_in None = 0
byte_in (Some r) = or_zero r.byte

-- what a list answered to a sheet
pub record TellsAnswer (a : SheetAnswer) (t : Taken) : Type 0 where
  pub accepted : t.accepted ≡ a.accepted
  pub start : t.start ≡ a.start
  pub refusal : t.refusal ≡ number_in (stopped a.fault)
  pub byte : t.byte ≡ byte_in (stopped a.fault)

-- what became of a sheet
pub record Tells {L : Type 0} (o : Outcome L) (t : Taken) : Type 0 where
  pub accepted : t.accepted ≡ length o.taken
  pub start : t.start ≡ o.start
  pub refusal : t.refusal ≡ number_in o.stop
  pub byte : t.byte ≡ byte_in o.stop

-- what a sheet leaves in a new list of n places, and with a reading the lines
abbrev pub held_after : {V L : Type 0} → Kind V L → ℕ → List ℕ → Bool → List L
held_after k n bytes read = cond read (lines k n (sheet bytes ∷ [])) (run k n (sheet bytes ∷ []))

-- whether one of those leaves admits a value, and what became of the sheet
pub record Answers {V L : Type 0} (k : Kind V L) (n : ℕ) (bytes : List ℕ) (v : V) (read : Bool) (r : Answer) : Type 0 where
  pub admitted : r.admitted ≡ any (λ x. admits k x v) (held_after k n bytes read)
  pub sheet : Tells (sheet_outcome k n bytes []) r.sheet

-- a text is handed out, with as much of it in front in the buffer as there is room for
pub record TextHanded (text old new : List ℕ) (r : SheetText) : Type 0 where
  pub length : r.length ≡ length text
  pub buffer : new ≡ over old 0 (fitting old 0 text)

-- what was printed
pub record TextsPrinted (p : Printed) (old new : List ℕ) (r : SheetText) : Type 0 where
  pub sheet : TellsAnswer p.answer r.sheet
  pub handed : TextHanded (vec_items p.text) old new r

-- what became of a sheet in a new list of 128 places, and its lines and what refused it as text
pub record TextsAs {V L : Type 0} (k : Kind V L) (text : L → List ℕ) (bytes old new : List ℕ) (r : SheetText) : Type 0 where
  pub sheet : Tells (sheet_outcome k 128 bytes []) r.sheet
  pub handed : TextHanded (output_of k text 128 bytes) old new r

abbrev pub texts_as : Bool → List ℕ → List ℕ → List ℕ → SheetText → Type 0
texts_as true bytes old new r = TextsAs days day_text bytes old new r
texts_as false bytes old new r = TextsAs amounts amount_text bytes old new r

-- as a sheet of days or of amounts
abbrev pub Texts : List ℕ → List ℕ → List ℕ → SheetText → Type 0
Texts bytes old new r = texts_as (is_of_days bytes) bytes old new r

-- nothing is told: all is zero, and the buffer stays as it was
pub record TextsNothing (old new : List ℕ) (r : SheetText) : Type 0 where
  pub zero : r ≡ record { done = false; sheet = record { accepted = 0; start = 0; refusal = 0; byte = 0 }; length = 0 }
  pub stays : new ≡ old
