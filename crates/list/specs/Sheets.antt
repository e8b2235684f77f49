-- What a sheet does to the leaves held: its leaves are inserted in turn, each once it is read, up to the sheet's end or a refusal.
use Rattle.std.specs.Prelude.{◌≡◌, ℕ, zero, suc, Bool, cond, List, [], ◌∷◌, length, Some, None, Option, nat_le, nat_lt}
use Rattle.faults.specs.Faults.{Refused, Answer, found, refused, at_byte, refused_at}
use Rattle.leaf.specs.Kind.{Kind, before, leaf_at}
use Rattle.list.specs.Lists.{inserted}

-- the leaves accepted, what is then held, the first byte after the last accepted leaf, and what stopped the sheet
pub record Outcome (L : Type 0) : Type 0 where
  pub taken : List L
  pub held : List L
  pub start : ℕ
  pub stop : Option Refused

module _ {L : Type 0} where
  -- nothing more is accepted
  abbrev pub ends : ℕ → List L → Option Refused → Outcome L
  ends at h s = record { taken = []; held = h; start = at; stop = s }

  -- a leaf is accepted before what follows it
  abbrev pub after_leaf : L → Outcome L → Outcome L
  after_leaf x o = record { taken = x ∷ o.taken; held = o.held; start = o.start; stop = o.stop }

  abbrev pub judged : {A : Type 0} → Answer L → (Refused → A) → (L → ℕ → A) → A
  judged (found x e) f g = g x e
  judged (refused r) f g = f r

  -- whether the leaves held fill a table of n places
  abbrev pub is_full : ℕ → List L → Bool
  is_full n h = nat_le n (length h)

  -- the refusal of a leaf for which there is no place: at a byte, or naming none
  abbrev pub full_at : Option ℕ → ℕ → List L → Option Refused
  full_at byte n h = cond (is_full n h) (Some (refused_at 10 byte)) None

module _ {V L : Type 0} (k : Kind V L) (n : ℕ) (bytes : List ℕ) where
  -- the leaf at `at`, once it is read and there is a place for it, and its end
  abbrev pub accepted_at : ℕ → List L → Answer L
  accepted_at at h = judged (leaf_at k bytes at) refused (λ x e. cond (is_full n h) (refused (at_byte 10 at)) (found x e))

  -- from the leaf at `at` on; each leaf takes a byte at least, so as many steps suffice as there are bytes
  abbrev pub fed : ℕ → ℕ → List L → Outcome L
  fed zero at h = ends at h None
  fed (suc steps) at h =
      cond (nat_lt at (length bytes))
      (judged (accepted_at at h) (λ r. ends at h (Some r)) (λ x e. after_leaf x (fed steps e (inserted (before k) x h))))
      (ends at h None)

  abbrev pub first_byte : List ℕ → List L → Outcome L
  first_byte [] h = ends 0 h (Some (at_byte 2 0))
  first_byte (b ∷ _) h = cond (k.kind_byte b) (fed (length bytes) 1 h) (ends 0 h (Some (at_byte 4 0)))

  -- at most 32,768 bytes, the first names the kind, then come the leaves
  abbrev pub sheet_outcome : List L → Outcome L
  sheet_outcome h = cond (nat_lt 32768 (length bytes)) (ends 0 h (Some (at_byte 1 0))) (first_byte bytes h)

module _ {V L : Type 0} (k : Kind V L) (bytes : List ℕ) where
  -- in every table the leaves of the sheet are taken from this byte on; or none of it is taken
  abbrev pub StartsAt : ℕ → Type 0
  StartsAt at = (n : ℕ) (h : List L) → sheet_outcome k n bytes h ≡ fed k n bytes (length bytes) at h

  abbrev pub TakesNone : Refused → Type 0
  TakesNone f = (n : ℕ) (h : List L) → sheet_outcome k n bytes h ≡ ends 0 h (Some f)

-- what a leaf accepted does to those held; a refusal leaves them as they were
abbrev pub put_in : {L : Type 0} → (L → L → Bool) → List L → Answer L → Answer (List L)
put_in up h (found x e) = found (inserted up x h) e
put_in up h (refused r) = refused r
