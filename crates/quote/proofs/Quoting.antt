-- The lines of both kinds, the remarks and the totals, one behind the other.
use Rattle.std.proofs.Common.{◌≡◌, ℕ, ◌+◌, ◌-◌, ◌≤◌, ◌^◌, min, true, false, Bool, cond, List, ◌++◌, length, codes, vec_items, ℤ, Option, sym, ap, refl, ◌∙◌, arith}
use Rattle.std.specs.Io.KnownBytes.{Appends}
use Rattle.leaf.specs.Kind.{Kind}
use Rattle.list.specs.Held.{Leads, held_of, lines_of, places_of}
use Rattle.list.specs.Runs.{Call, lines, reading}
use Rattle.list.specs.declared.leaves.Leaves.{Leaves}
use Rattle.amounts.specs.declared.amount_leaf.AmountLeaf.{AmountLeaf}
use Rattle.amounts.specs.Amounts.{amounts}
use Rattle.amounts.specs.Text.{line_text as amount_text}
use Rattle.days.specs.declared.day_leaf.DayLeaf.{DayLeaf}
use Rattle.days.specs.Days.{days}
use Rattle.days.specs.Text.{line_text as day_text}
use Rattle.notation.specs.Laws.Numbered.{appends_both}
use Rattle.quote.specs.declared.batch.Taken.{Taken}
use Rattle.quote.specs.Batch.{Line, sheets_of}
use Rattle.quote.specs.Quotation.{lines_text, quotation_of, totals_text}
use Rattle.quote.specs.Sheets.{amount_lines, amount_run, day_lines, day_run}
use Rattle.quote.specs.Taking.{Completes}

lines_known : {V L : Type 0} (k : Kind V L) (cs : List (Call V L)) (l : Leaves V L) → Leads k cs l → lines_of k l ≡ lines k (places_of l) cs
lines_known k cs l w = go l.canonical w.settled ∙ ap (reading k) w.held
  where
    go : (b : Bool) → (b ≡ true → reading k (held_of l) ≡ held_of l) → cond b (held_of l) (reading k (held_of l)) ≡ reading k (held_of l)
    go true s = sym (s refl)
    go false s = refl

module _ (ls : List Line) (t : Taken) (a : Leaves ℤ AmountLeaf) (d : Leaves ℕ DayLeaf) (c : Completes ls t a d) where
  amounts_known : lines_of amounts a ≡ amount_lines (sheets_of ls)
  amounts_known = lines_known amounts (amount_run (sheets_of ls)) a c.stands.holds.of_amounts ∙ ap (λ (n : ℕ). lines amounts n (amount_run (sheets_of ls))) c.stands.holds.amount_places

  days_known : lines_of days d ≡ day_lines (sheets_of ls)
  days_known = lines_known days (day_run (sheets_of ls)) d c.stands.holds.of_days ∙ ap (λ (n : ℕ). lines days n (day_run (sheets_of ls))) c.stands.holds.day_places

  pub quoted : (u v w x : Option (List ℕ)) (n m billed : ℕ) → n ≤ places_of a → m ≤ places_of d → n ≡ length (lines_of amounts a) → m ≡ length (lines_of days d) → billed ≡ min (n + m) (2 ^ 64 - 1) →
      Appends u v (lines_text (codes "amounts") amount_text (lines_of amounts a)) → Appends v w (lines_text (codes "days") day_text (lines_of days d)) →
      Appends w x (vec_items t.remarks ++ totals_text t.sheets t.accepted billed t.refused t.malformed) → Appends u x (quotation_of ls (sheets_of ls))
  quoted u v w x n m billed nl ml ne me be p q r =
      let np = c.stands.holds.amount_places in
      let mp = c.stands.holds.day_places in
      let n' : n ≡ length (amount_lines (sheets_of ls)) = ne ∙ ap length amounts_known in
      let m' : m ≡ length (day_lines (sheets_of ls)) = me ∙ ap length days_known in
      let b : billed ≡ length (amount_lines (sheets_of ls)) + length (day_lines (sheets_of ls)) = omega arith in
      let p' = rw amounts_known at p in
      let q' = rw days_known at q in
      let r' = rw (c.remarks, c.stands.sheets, c.stands.accepted, b, c.refusals, c.others) at r in
      appends_both u v x (lines_text (codes "amounts") amount_text (amount_lines (sheets_of ls))) _ p' (appends_both v w x (lines_text (codes "days") day_text (day_lines (sheets_of ls))) _ q' r')
