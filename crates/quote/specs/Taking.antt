-- What taking a batch does to the two lists, and what is noted of it.
use Rattle.std.specs.Prelude.{◌≡◌, ℕ, ◌+◌, ◌-◌, ◌<◌, ◌^◌, min, List, [], ◌∷◌, ◌++◌, length, count_by, vec_items, ℤ, Some, None, Option}
use Rattle.faults.specs.Faults.{Refused}
use Rattle.list.specs.Held.{Leads, places_of, stopped}
use Rattle.list.specs.declared.leaves.Leaves.{Leaves}
use Rattle.list.specs.declared.sheets.SheetAnswer.{SheetAnswer}
use Rattle.amounts.specs.declared.amount_leaf.AmountLeaf.{AmountLeaf}
use Rattle.amounts.specs.Amounts.{amounts}
use Rattle.days.specs.declared.day_leaf.DayLeaf.{DayLeaf}
use Rattle.days.specs.Days.{days}
use Rattle.quote.specs.declared.batch.Taken.{Taken}
use Rattle.quote.specs.Batch.{Line, malformed, blank, sheet, is_malformed, sheets_of}
use Rattle.quote.specs.Sheets.{amount_run, day_run, leaves_accepted, refusals_after, stop_after}
use Rattle.quote.specs.Quotation.{malformed_remark, refusal_remark, remarks_after}

-- the lists have taken these sheets, each its own, and have 1,024 places each
pub record Holds (before : List (List ℕ)) (a : Leaves ℤ AmountLeaf) (d : Leaves ℕ DayLeaf) : Type 0 where
  pub of_amounts : Leads amounts (amount_run before) a
  pub of_days : Leads days (day_run before) d
  pub amount_places : places_of a ≡ 1024
  pub day_places : places_of d ≡ 1024

-- what a list answers to a sheet, after those before it
pub record Tells (before : List (List ℕ)) (bytes : List ℕ) (r : SheetAnswer) : Type 0 where
  pub accepted : leaves_accepted before + r.accepted ≡ leaves_accepted (before ++ bytes ∷ [])
  pub few : leaves_accepted before + r.accepted < 2 ^ 64
  pub fault : stopped r.fault ≡ stop_after before bytes

-- a sum as far as 64 bits hold it
abbrev pub sum_to : ℕ → ℕ → ℕ
sum_to n m = min (n + m) (2 ^ 64 - 1)

-- the sheets so far are taken and counted
pub record Stands (before : List (List ℕ)) (t : Taken) (a : Leaves ℤ AmountLeaf) (d : Leaves ℕ DayLeaf) : Type 0 where
  pub holds : Holds before a d
  pub sheets : t.sheets ≡ length before
  pub accepted : t.accepted ≡ leaves_accepted before

-- one more where there is a refusal, as far as 64 bits hold it
abbrev pub one_more_if : Option Refused → ℕ → ℕ
one_more_if None n = n
one_more_if (Some r) n = sum_to n 1

-- nothing more is counted or remarked
pub record SameNotes (u t : Taken) : Type 0 where
  pub counts : t ≡ record u { remarks = t.remarks }
  pub remarks : vec_items t.remarks ≡ vec_items u.remarks

-- behind what was noted stands a remark, and so many are refused and malformed
pub record Notes (u t : Taken) (refusals others : ℕ) (remark : List ℕ) : Type 0 where
  pub refused : t.refused ≡ refusals
  pub malformed : t.malformed ≡ others
  pub remarks : vec_items t.remarks ≡ vec_items u.remarks ++ remark

-- what line k does after the sheets before it: u was noted, and then t is
abbrev pub Follows : List (List ℕ) → ℕ → Line → Taken → Taken → Leaves ℤ AmountLeaf → Leaves ℕ DayLeaf → Type 0
Follows before k malformed u t a d = Stands before t a d × Notes u t u.refused (sum_to u.malformed 1) (malformed_remark k)
Follows before k blank u t a d = Stands before t a d × (t ≡ u)
Follows before k (sheet bytes) u t a d =
    Stands (before ++ bytes ∷ []) t a d × Notes u t (one_more_if (stop_after before bytes) u.refused) u.malformed (refusal_remark (length before + 1) k (stop_after before bytes))

-- the sheets of all lines are taken and counted, and so is what was refused and what is not hexadecimal
pub record Completes (ls : List Line) (t : Taken) (a : Leaves ℤ AmountLeaf) (d : Leaves ℕ DayLeaf) : Type 0 where
  pub stands : Stands (sheets_of ls) t a d
  pub refusals : t.refused ≡ refusals_after [] (sheets_of ls)
  pub others : t.malformed ≡ count_by is_malformed ls
  pub remarks : vec_items t.remarks ≡ remarks_after [] 1 ls
