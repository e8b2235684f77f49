-- A call leads from what a run led to, to what the longer run leads to.
use Rattle.std.proofs.Common.{◌≡◌, ℕ, Bool, true, false, cond, ◌&&◌, ◌==◌, length, List, [], ◌∷◌, ◌++◌, sym, refl, ap, ◌∙◌, subst, arith}
use Rattle.std.proofs.lemmas.Bool.{cond-false, false≢true, ne_eqb}
use Rattle.leaf.specs.Kind.{Kind, Laws, Lawful, before}
use Rattle.list.specs.Lists.{Placed, inserted}
use Rattle.list.specs.Sheets.{is_full}
use Rattle.list.specs.Runs.Call.{insert, sheet, admits?, empty?, count, line}
use Rattle.list.specs.Runs.{Call, after, taken, reading, run, Allowed, Unread, Promised}
use Rattle.list.specs.Seen.{Seen, answer_of, held_after, read_after}
use Rattle.list.specs.Held.{held_of, places_of, seen_of, lines_of, SameSeen, FreePlacesUnseen, KeepsPromises, PutsIn, Settled, Sound, Leads, LeadsOn}
use Rattle.list.specs.declared.leaves.Leaves.{Leaves}
use Rattle.list.proofs.Core.{Up}
use Rattle.list.proofs.Reading.{pairs_map, append_all}
use Rattle.list.proofs.Rows.{placed}
use Rattle.list.proofs.TwoLeaves
use Rattle.list.proofs.OverKinds.{ops, laws, up_before}
use Rattle.list.proofs.Pouring.{Rowed, after_poured, poured}
use Rattle.list.proofs.Running.{run_row, after_row, run_append, lines_row, lines_twice, promises}

module _ {V L : Type 0} (k : Kind V L) where
  nothing : (xs : List L) (b : Bool) → ((length xs == 0) && b) ≡ true → (xs ≡ []) × (b ≡ true)
  nothing [] b e = (refl, e)
  nothing (x ∷ xs) b e = absurd (false≢true (ap (λ t. t && b) (sym (ne_eqb (length (x ∷ xs)) 0 (omega arith))) ∙ e))

  unsettled : (s : Seen L) (c : Call V L) → Unread k c → read_after k s c ≡ true → (taken k s.places s.held c ≡ []) × (s.read ≡ true)
  unsettled s count u e = absurd u
  unsettled s (line i) u e = absurd u
  unsettled s (insert x) u e = nothing (taken k s.places s.held (insert x)) s.read e
  unsettled s (sheet bytes) u e = nothing (taken k s.places s.held (sheet bytes)) s.read e
  unsettled s (admits? v) u e = (refl, e)
  unsettled s empty? u e = (refl, e)

module _ {V L : Type 0} (k : Kind V L) (w : Laws k) where
  rowed : (l : Leaves V L) → Sound k l → Rowed k w (held_of l)
  rowed l s = (s.lawful, pairs_map (Lawful k) (λ a b. before k a b ≡ true) (Up (ops k)) (λ a b _ _ h. TwoLeaves.up_up (ops k) (laws k w) a b h) (held_of l) s.lawful s.ascending)

  sound : (l : Leaves V L) → Rowed k w (held_of l) → Settled k l → Sound k l
  sound l r s = record { lawful = r.0; ascending = pairs_map (Lawful k) (Up (ops k)) (λ a b. before k a b ≡ true) (λ a b _ _. up_before k w a b) (held_of l) r.0 r.1; settled = s }

  before_trans : (a b c : L) → Lawful k a → Lawful k b → Lawful k c → before k a b ≡ true → before k b c ≡ true → before k a c ≡ true
  before_trans a b c p q r h i = up_before k w a c (TwoLeaves.up_trans (ops k) (laws k w) a b c p q r (TwoLeaves.up_up (ops k) (laws k w) a b h) (TwoLeaves.up_up (ops k) (laws k w) b c i))

  -- where the list is sound, an insert puts the leaf into its place
  pub insert_placed : (l l' : Leaves V L) (x : L) → held_of l' ≡ after k (places_of l) (held_of l) (insert x) → PutsIn k x l l'
  insert_placed l l' x e s p f =
      subst (Placed (before k) x (held_of l)) (sym (e ∙ cond-false (is_full (places_of l) (held_of l)) (held_of l) (inserted (before k) x (held_of l)) f))
      (placed (before k) (Lawful k) before_trans x (held_of l) p s.lawful s.ascending)

  leads_row : (cs : List (Call V L)) (l : Leaves V L) → Leads k cs l → Rowed k w (held_of l)
  leads_row cs l d = subst (Rowed k w) (sym d.held) (run_row k w (places_of l) cs [] (tt, tt) d.allowed)

  -- every run leads to a sound list
  pub leads_sound : (cs : List (Call V L)) (l : Leaves V L) → Leads k cs l → Sound k l
  leads_sound cs l d = sound l (leads_row cs l d) d.settled

  module _ (l l' : Leaves V L) (c : Call V L) (same : places_of l' ≡ places_of l) (does : held_of l' ≡ after k (places_of l) (held_of l) c) where
    led : (cs : List (Call V L)) → held_of l ≡ run k (places_of l) cs → held_of l' ≡ run k (places_of l') (cs ++ c ∷ [])
    led cs e =
        does ∙ ap (λ h. after k (places_of l) h c) e ∙ sym (run_append k w (places_of l) cs (c ∷ []) []) ∙ ap (λ (n : ℕ). run k n (cs ++ c ∷ [])) (sym same)

    module _ (unread : Unread k c) (flag : l'.canonical ≡ read_after k (seen_of l) c) (p : Allowed k c) where
      -- where nothing came since the last reading, none came before and none is accepted
      keeps_settled : Settled k l → Settled k l'
      keeps_settled s f =
          let (e, t) = unsettled k (seen_of l) c unread (sym flag ∙ f) in
          let stays : held_of l' ≡ held_of l = does ∙ after_poured k w (places_of l) (held_of l) c unread ∙ ap (poured k (held_of l)) e in
          ap (reading k) stays ∙ s t ∙ sym stays

      pub sound_next : Sound k l → Sound k l'
      sound_next s = sound l' (subst (Rowed k w) (sym does) (after_row k w (places_of l) (held_of l) c (rowed l s) p)) (keeps_settled s.settled)

      pub leads_next : LeadsOn k c l l'
      leads_next cs d = record { allowed = append_all (Allowed k) cs (c ∷ []) d.allowed (p, tt); held = led cs d.held; settled = keeps_settled d.settled }

  -- readings
  module _ (l l' : Leaves V L) (same : places_of l' ≡ places_of l) (read : held_of l' ≡ lines_of k l) where
    lines_read : Settled k l → held_of l' ≡ reading k (held_of l)
    lines_read s = was l.canonical read s where
      was : (b : Bool) → held_of l' ≡ cond b (held_of l) (reading k (held_of l)) → (b ≡ true → reading k (held_of l) ≡ held_of l) → held_of l' ≡ reading k (held_of l)
      was true e s = e ∙ sym (s refl)
      was false e s = e

    lines_settled : Rowed k w (held_of l) → Settled k l → Settled k l'
    lines_settled r s f = ap (reading k) (lines_read s) ∙ lines_twice k w (held_of l) r ∙ sym (lines_read s)

    pub sound_read : Sound k l → Sound k l'
    sound_read s = sound l' (subst (Rowed k w) (sym (lines_read s.settled)) (lines_row k w (held_of l) (rowed l s))) (lines_settled (rowed l s) s.settled)

    pub leads_read : (c : Call V L) → ((n : ℕ) (h : List L) → after k n h c ≡ reading k h) → Allowed k c → LeadsOn k c l l'
    leads_read c f p cs d = record {
      allowed = append_all (Allowed k) cs (c ∷ []) d.allowed (p, tt);
      held = led l l' c same (lines_read d.settled ∙ sym (f (places_of l) (held_of l))) cs d.held;
      settled = lines_settled (leads_row cs l d) d.settled;
    }

    pub read_promised : KeepsPromises k l l'
    read_promised cs d = subst (Promised k (places_of l) cs) (sym (lines_read d.settled ∙ ap (reading k) d.held)) ((promises k w).runs (places_of l) cs d.allowed)

  -- a question
  pub leads_ask : (l : Leaves V L) (c : Call V L) → Unread k c → ((n : ℕ) (h : List L) → after k n h c ≡ h) → ((s : Seen L) → read_after k s c ≡ s.read) → Allowed k c → LeadsOn k c l l
  leads_ask l c u f g p = leads_next l l c refl (sym (f (places_of l) (held_of l))) u (sym (g (seen_of l))) p

-- free places are not seen
pub free_unseen : {V L : Type 0} (k : Kind V L) → FreePlacesUnseen k
free_unseen {V} {L} k = record {
  answers = λ l m s c. ap (λ (t : Seen L). answer_of k t c) (same l m s);
  held = λ l m s c. ap (λ (t : Seen L). held_after k t c) (same l m s);
  read = λ l m s c. ap (λ (t : Seen L). read_after k t c) (same l m s);
}
  where
    same : (l m : Leaves V L) → SameSeen l m → seen_of l ≡ seen_of m
    same l m s = λ i. record { places = s.places i; held = s.held i; read = s.read i }
