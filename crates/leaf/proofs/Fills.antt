-- What fills a place is lawful, and ends past its start and within the sheet.
use Rattle.std.proofs.Common.{◌≡◌, ℕ, ◌<◌, ◌≤◌, List, length, min, Ok, Result, sym, ap, subst, ◌∙◌}
use Rattle.faults.specs.declared.fault.Fault.{Fault}
use Rattle.faults.specs.Faults.{Answer, Fills, found, refused}
use Rattle.leaf.specs.Kind.{Kind, Laws, Lawful, leaf_at}
use Rattle.leaf.specs.Grammar.{WellRead}
use Rattle.leaf.specs.Laws.Judging.{well_read}
use Rattle.leaf.specs.Laws.Starts.{leaf_from_end}

module _ {V L : Type 0} (k : Kind V L) (laws : Laws k) where
  -- from where a reader of the sheet stands once it is made
  pub fills_from : (sheet s : List ℕ) (start at : ℕ) (was is : L) (given r : Result ℕ Fault) → s ≡ sheet → at ≡ min start (length sheet) → given ≡ r → Fills (leaf_at k s at) was is given → Fills (leaf_at k sheet start) was is r
  fills_from sheet s start at was is given r e f g h =
      subst (Fills (leaf_at k sheet start) was is) g
      (subst (λ (a : Answer L). Fills a was is given) ((λ i. leaf_at k (e i) at) ∙ (ap (leaf_at k sheet) f ∙ leaf_from_end k laws sheet start)) h)

  pub fills_well : (s : List ℕ) (at : ℕ) (was is : L) (e : ℕ) → Fills (leaf_at k s at) was is (Ok e) → Lawful k is × (at < e) × (e ≤ length s)
  fills_well s at was is e h = by (leaf_at k s at) (well_read k laws s at) h
    where
      by : (a : Answer L) → WellRead k s at a → Fills a was is (Ok e) → Lawful k is × (at < e) × (e ≤ length s)
      by (found x end) w (q, p) = let i : end ≡ e = cc in (subst (Lawful k) (sym p) w.0, subst (λ (z : ℕ). at < z) i w.1, subst (λ (z : ℕ). z ≤ length s) i w.2)
      by (refused f) w h = absurd h
