-- The answer to a sheet, as what was printed of it tells.
use Rattle.std.proofs.Common.{◌≡◌, ℕ, Bool, true, false, List, vec_items}
use Rattle.leaf.specs.Kind.{Kind}
use Rattle.list.specs.Held.{stopped}
use Rattle.amounts.specs.Amounts.{amounts}
use Rattle.amounts.specs.Text.{line_text as amount_text}
use Rattle.days.specs.Days.{days}
use Rattle.days.specs.Text.{line_text as day_text}
use Rattle.sheets.specs.declared.output.Printed.{Printed}
use Rattle.sheets.specs.Output.{Prints, prints_as}
use Rattle.cases.specs.Cases.{answer_as, answer_of}
use Rattle.cases.specs.Texts.{answer_text}

answered : {V L : Type 0} (k : Kind V L) (text : L → List ℕ) (bytes : List ℕ) (p : Printed) → Prints k text 128 bytes p →
    answer_text p.answer.accepted p.answer.start (stopped p.answer.fault) (vec_items p.text) ≡ answer_of k text bytes
answered k text bytes p w = rw (w.answer.accepted, w.answer.start, w.answer.fault, w.output)

pub answered_as : (b : Bool) (bytes : List ℕ) (p : Printed) → prints_as b bytes p → answer_text p.answer.accepted p.answer.start (stopped p.answer.fault) (vec_items p.text) ≡ answer_as b bytes
answered_as true bytes p w = answered days day_text bytes p w
answered_as false bytes p w = answered amounts amount_text bytes p w
