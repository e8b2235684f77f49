-- A sheet of which nothing is refused: what was printed of it is its lines.
use Rattle.std.proofs.Common.{◌≡◌, ℕ, Bool, true, false, List, [], ◌∷◌, ◌++◌, is_none, is_some, not, vec_items, Some, None, Option, sym, refl, ap, ◌∙◌}
use Rattle.std.proofs.lemmas.List.{append-nil}
use Rattle.std.specs.Str.{bytes_eq}
use Rattle.faults.specs.Faults.{Refused}
use Rattle.faults.specs.declared.fault.Fault.{Fault}
use Rattle.leaf.specs.Kind.{Kind}
use Rattle.texts.specs.Text.{together}
use Rattle.list.specs.Held.{stopped}
use Rattle.list.specs.Runs.{lines}
use Rattle.list.specs.Runs.Call.{sheet}
use Rattle.list.specs.Sheets.{sheet_outcome}
use Rattle.amounts.specs.Amounts.{amounts}
use Rattle.amounts.specs.Text.{line_text as amount_text}
use Rattle.days.specs.Days.{days}
use Rattle.days.specs.Text.{line_text as day_text}
use Rattle.sheets.specs.declared.output.Printed.{Printed}
use Rattle.sheets.specs.Output.{Prints, output_of, prints_as, stop_text}
use Rattle.crate_answers.specs.Lines.{has_lines, in_one_line, printed_as}

none_stopped : (o : Option Fault) → is_some o ≡ false → stopped o ≡ None
none_stopped None e = refl
none_stopped (Some f) e = cc

some_stopped : (o : Option Fault) (s : Option Refused) → is_some o ≡ true → stopped o ≡ s → is_none s ≡ false
some_stopped None s e h = cc
some_stopped (Some f) s e h = ap is_none (sym h)

-- whether nothing is refused, as an answer tells it
pub whole_told : (o : Option Fault) (s : Option Refused) (b : Bool) → is_some o ≡ not b → stopped o ≡ s → b ≡ is_none s
whole_told None s true e h = ap is_none h
whole_told None s false e h = cc
whole_told (Some f) s true e h = cc
whole_told (Some f) s false e h = ap is_none h

module _ {V L : Type 0} (k : Kind V L) (text : L → List ℕ) (bytes : List ℕ) (p : Printed) (w : Prints k text 128 bytes p) where
  refused : (answer : List ℕ) → is_some p.answer.fault ≡ true → false ≡ has_lines k text bytes answer
  refused answer e = rw (some_stopped p.answer.fault (sheet_outcome k 128 bytes []).stop e w.answer.fault) refl

  printed : (answer : List ℕ) (b : Bool) → is_some p.answer.fault ≡ false → b ≡ bytes_eq (in_one_line (vec_items p.text)) answer → b ≡ has_lines k text bytes answer
  unfolding output_of
  printed answer b e h =
      let none : (sheet_outcome k 128 bytes []).stop ≡ None = sym w.answer.fault ∙ none_stopped p.answer.fault e in
      let shown = together text (lines k 128 (sheet bytes ∷ [])) in
      let same : vec_items p.text ≡ shown = w.output ∙ ap (λ s. shown ++ stop_text s) none ∙ append-nil shown in
      rw none (h ∙ ap (λ (t : List ℕ). bytes_eq (in_one_line t) answer) same)

pub refused_as : (b : Bool) (bytes answer : List ℕ) (p : Printed) → prints_as b bytes p → is_some p.answer.fault ≡ true → false ≡ printed_as b bytes answer
refused_as true bytes answer p w e = refused days day_text bytes p w answer e
refused_as false bytes answer p w e = refused amounts amount_text bytes p w answer e

pub lines_printed : (b : Bool) (bytes answer : List ℕ) (p : Printed) (r : Bool) → prints_as b bytes p → is_some p.answer.fault ≡ false → r ≡ bytes_eq (in_one_line (vec_items p.text)) answer → r ≡ printed_as b bytes answer
lines_printed true bytes answer p r w e h = printed days day_text bytes p w answer r e h
lines_printed false bytes answer p r w e h = printed amounts amount_text bytes p w answer r e h
