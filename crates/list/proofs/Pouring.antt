-- What an insert or a sheet does is to put the leaves that it accepts into their places, one after the other; all of them are lawful.
use Rattle.std.proofs.Common.{◌≡◌, ℕ, Bool, true, false, cond, ◌⊎◌, List, [], ◌∷◌, refl, sym, ap, ◌∙◌, subst, inl, inr}
use Rattle.std.proofs.lemmas.Bool.{cond_both}
use Rattle.leaf.specs.Kind.{Kind, Laws, Lawful, before}
use Rattle.list.specs.Lists.{All, Any, inserted, inserted_all}
use Rattle.list.specs.Sheets.{Outcome, is_full, sheet_outcome}
use Rattle.list.specs.Runs.{Call, after, taken, reading, Allowed, Unread}
use Rattle.list.specs.Runs.Call.{insert, sheet, admits?, empty?, count, line}
use Rattle.list.proofs.Fed.{read_well, left_all, sheet_all}
use Rattle.list.proofs.Rows.{any_inserted, inserted_any}
use Rattle.list.proofs.Joined.{Row}
use Rattle.list.proofs.Reading.{put_row}
use Rattle.list.proofs.OverKinds.{ops, laws}

module _ {V L : Type 0} (k : Kind V L) where
  -- xs inserted in turn
  abbrev pub poured : List L → List L → List L
  poured h xs = inserted_all (before k) xs h

  pub poured_any : (P : L → Type 0) (xs h : List L) → Any P (poured h xs) → Any P h ⊎ Any P xs
  poured_any P [] h i = inl i
  poured_any P (x ∷ xs) h i = move (poured_any P xs (inserted (before k) x h) i)
    where
      back : P x ⊎ Any P h → Any P h ⊎ (P x ⊎ Any P xs)
      back (inl a) = inr (inl a)
      back (inr a) = inl a

      move : Any P (inserted (before k) x h) ⊎ Any P xs → Any P h ⊎ (P x ⊎ Any P xs)
      move (inl a) = back (inserted_any (before k) P x h a)
      move (inr a) = inr (inr a)

  pub any_poured : (P : L → Type 0) (xs h : List L) → Any P h ⊎ Any P xs → Any P (poured h xs)
  any_poured P [] h (inl i) = i
  any_poured P [] h (inr i) = absurd i
  any_poured P (x ∷ xs) h i = any_poured P xs (inserted (before k) x h) (move i)
    where
      move : Any P h ⊎ (P x ⊎ Any P xs) → Any P (inserted (before k) x h) ⊎ Any P xs
      move (inl a) = inl (any_inserted (before k) P x h (inr a))
      move (inr (inl a)) = inl (any_inserted (before k) P x h (inl a))
      move (inr (inr a)) = inr a

module _ {V L : Type 0} (k : Kind V L) (w : Laws k) where
  abbrev pub Rowed : List L → Type 0
  Rowed h = Row (ops k) (laws k w) h

  pub poured_row : (xs h : List L) → Rowed h → All (Lawful k) xs → Rowed (poured k h xs)
  poured_row [] h r p = r
  poured_row (x ∷ xs) h r p = poured_row xs (inserted (before k) x h) (put_row (ops k) (laws k w) x h p.0 r) p.1

  -- a sheet inserts lawful leaves
  pub record Pours (h : List L) (o : Outcome L) : Type 0 where
    pub held : o.held ≡ poured k h o.taken
    pub lawful : All (Lawful k) o.taken

  nothing : (h : List L) (o : Outcome L) → o.taken ≡ [] → o.held ≡ h → Pours h o
  nothing h o e d = record { held = d ∙ ap (poured k h) (sym e); lawful = subst (All (Lawful k)) (sym e) tt }

  pub sheet_pours : (n : ℕ) (bytes : List ℕ) (h : List L) → Pours h (sheet_outcome k n bytes h)
  sheet_pours n bytes h =
      sheet_all k n bytes h (Pours h) (λ _. nothing h _ refl refl) (λ _. nothing h _ refl refl) (λ _ _ _. nothing h _ refl refl)
      (λ _. left_all k n bytes w (λ at h o. Pours h o) (λ at h l. nothing h _ refl refl) (λ at h r l q. nothing h _ refl refl) (λ at h x e l q f. nothing h _ refl refl)
      (λ at h x e o q f p. record { held = p.held; lawful = ((read_well k n bytes w at x e q).0, p.lawful) }) 1 h)

  -- every call but a reading
  pub after_poured : (n : ℕ) (h : List L) (c : Call V L) → Unread k c → after k n h c ≡ poured k h (taken k n h c)
  after_poured n h (insert x) u = go (is_full n h)
    where
      go : (b : Bool) → cond b h (inserted (before k) x h) ≡ poured k h (cond b [] (x ∷ []))
      go true = refl
      go false = refl
  after_poured n h (sheet bytes) u = (sheet_pours n bytes h).held
  after_poured n h (admits? v) u = refl
  after_poured n h empty? u = refl
  after_poured n h count u = absurd u
  after_poured n h (line i) u = absurd u

  pub taken_lawful : (n : ℕ) (h : List L) (c : Call V L) → Allowed k c → All (Lawful k) (taken k n h c)
  taken_lawful n h (insert x) p = cond_both (is_full n h) [] (x ∷ []) (All (Lawful k)) (λ _. tt) (λ _. (p, tt))
  taken_lawful n h (sheet bytes) p = (sheet_pours n bytes h).lawful
  taken_lawful n h (admits? v) p = tt
  taken_lawful n h empty? p = tt
  taken_lawful n h count p = tt
  taken_lawful n h (line i) p = tt

  -- a call is a reading, or is none
  pub unread_or : (c : Call V L) → Unread k c ⊎ ((n : ℕ) (h : List L) → (after k n h c ≡ reading k h) × (taken k n h c ≡ []))
  unread_or (insert x) = inl tt
  unread_or (sheet bytes) = inl tt
  unread_or (admits? v) = inl tt
  unread_or empty? = inl tt
  unread_or count = inr (λ n h. (refl, refl))
  unread_or (line i) = inr (λ n h. (refl, refl))
