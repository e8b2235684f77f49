-- The loop over the leaves of a sheet.
use Rattle.std.proofs.Common.{◌≡◌, ℕ, ◌+◌, ◌<◌, false, ◌&&◌, ◌==◌, length, Some, Ok, Err, Option, List, sym, refl, ap, ◌∙◌, subst, arith}
use Rattle.std.proofs.lemmas.Bool.{ne_eqb}
use Rattle.faults.specs.declared.fault.Fault.{Fault}
use Rattle.faults.specs.Faults.{Answer, found, refused, Fills}
use Rattle.leaf.specs.Kind.{Kind, Laws, before}
use Rattle.list.specs.Sheets.{Outcome, ends, after_leaf, accepted_at, put_in, sheet_outcome}
use Rattle.list.specs.declared.sheets.SheetAnswer.{SheetAnswer as Told}
use Rattle.list.specs.Held.{held_of, places_of, stopped, SameTable, TakesLeaf, Tells}
use Rattle.list.specs.declared.leaves.Leaves.{Leaves}
use Rattle.list.proofs.Fed.{accepted_well, left, left_leaf, left_stop}

-- the outcome o is what a leaves accepted before have left to come, p
pub record Extends {L : Type 0} (a : ℕ) (o p : Outcome L) : Type 0 where
  pub taken : length o.taken ≡ a + length p.taken
  pub held : o.held ≡ p.held
  pub start : o.start ≡ p.start
  pub stop : o.stop ≡ p.stop

-- what the loop answers, the list being l₀ at first and l at last
pub record Fed {V L : Type 0} (o : Outcome L) (l₀ l : Leaves V L) (a : Told) : Type 0 where
  pub table : SameTable l₀ l
  pub answer : Tells a o
  pub held : held_of l ≡ o.held
  pub flag : l.canonical ≡ ((a.accepted == 0) && l₀.canonical)

module _ {L : Type 0} (a : ℕ) (o : Outcome L) where
  extends_on : (p q : Outcome L) (x : L) → Extends a o p → p ≡ after_leaf x q → Extends (a + 1) o q
  extends_on p q x z e = record {
    taken = omega (arith, z.taken, ap (λ o. length o.taken) e);
    held = z.held ∙ ap (λ o. o.held) e;
    start = z.start ∙ ap (λ o. o.start) e;
    stop = z.stop ∙ ap (λ o. o.stop) e;
  }

module _ {V L : Type 0} where
  same_as : (l l' l'' : Leaves V L) → SameTable l l' → SameTable l' l'' → SameTable l l''
  same_as l l' l'' s t = record { lent = t.lent ∙ s.lent; places = t.places ∙ s.places }

  -- where nothing is left to come, the loop has its answer
  fed_told : (l₀ l : Leaves V L) (at a : ℕ) (f : Option Fault) (o : Outcome L) (h : List L) → SameTable l₀ l → l.canonical ≡ ((a == 0) && l₀.canonical) → held_of l ≡ h → Extends a o (ends at h (stopped f)) → Fed o l₀ l (record { accepted = a; start = at; fault = f })
  fed_told l₀ l at a f o h t u e x = record {
    table = t;
    answer = record { accepted = omega (arith, x.taken); start = sym x.start; fault = sym x.stop };
    held = e ∙ sym x.held;
    flag = u;
  }

module _ {V L : Type 0} (k : Kind V L) (w : Laws k) (bytes : List ℕ) (l₀ : Leaves V L) where
  -- the list l₀ has taken a leaves, is now l, and goes on at `at`
  pub record Feeding (l : Leaves V L) (at a : ℕ) : Type 0 where
    pub table : SameTable l₀ l
    pub flag : l.canonical ≡ ((a == 0) && l₀.canonical)
    pub fewer : a < at
    pub sofar : Extends a (sheet_outcome k (places_of l₀) bytes (held_of l₀)) (left k (places_of l₀) bytes at (held_of l))

  module _ (l : Leaves V L) (at a : ℕ) (s : Feeding l at a) where
    abbrev o : Outcome L
    o = sheet_outcome k (places_of l₀) bytes (held_of l₀)

    module _ (m : at < length bytes) (l' : Leaves V L) (t : SameTable l l') where
      abbrev one : Answer L
      one = accepted_at k (places_of l) bytes at (held_of l)

      here : accepted_at k (places_of l₀) bytes at (held_of l) ≡ one
      here = ap (λ (n : ℕ). accepted_at k n bytes at (held_of l)) (sym s.table.places)

      pub feeding_more : (e : ℕ) → l'.canonical ≡ false → TakesLeaf k bytes at l l' (Ok e) → Feeding l' e (a + 1)
      feeding_more e u f = at_one one refl f
        where
          at_one : (b : Answer L) → one ≡ b → Fills (put_in (before k) (held_of l) b) (held_of l) (held_of l') (Ok e) → Feeding l' e (a + 1)
          at_one (refused r) q g = absurd g
          at_one (found x d) q g =
              let de : d ≡ e = cc in
              let q' : accepted_at k (places_of l₀) bytes at (held_of l) ≡ found x e = here ∙ q ∙ ap (found x) de in
              let b = accepted_well k (places_of l₀) bytes w at (held_of l) x e q' in
              let step = left_leaf k (places_of l₀) bytes w at (held_of l) x e m q' in
              record {
                table = same_as l₀ l l' s.table t;
                flag = u ∙ ap (λ t. t && l₀.canonical) (sym (ne_eqb (a + 1) 0 (omega arith)));
                fewer = omega (arith, s.fewer);
                sofar = extends_on a o (left k (places_of l₀) bytes at (held_of l)) (left k (places_of l₀) bytes e (held_of l')) x s.sofar (step ∙ ap (λ h. after_leaf x (left k (places_of l₀) bytes e h)) (sym g.1));
              }

      pub feeding_stop : (f : Fault) → l'.canonical ≡ l.canonical → TakesLeaf k bytes at l l' (Err f) → Fed o l₀ l' (record { accepted = a; start = at; fault = Some f })
      feeding_stop f u g = at_one one refl g
        where
          at_one : (b : Answer L) → one ≡ b → Fills (put_in (before k) (held_of l) b) (held_of l) (held_of l') (Err f) → Fed o l₀ l' (record { accepted = a; start = at; fault = Some f })
          at_one (found x d) q g = let z : ◌≡◌ {A = ℕ} 0 1 = cc in absurd (omega arith)
          at_one (refused r) q g =
              let step = left_stop k (places_of l₀) bytes at (held_of l) r m (here ∙ q) in
              fed_told l₀ l' at a (Some f) o (held_of l) (same_as l₀ l l' s.table t) (u ∙ s.flag) g.1
              (subst (Extends a o) (step ∙ ap (λ r. ends at (held_of l) (Some r)) (sym g.0)) s.sofar)
