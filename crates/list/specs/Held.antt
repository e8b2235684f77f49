-- What the fields of a list say.
use Rattle.std.specs.Prelude.{◌≡◌, ℕ, true, false, List, [], ◌∷◌, ◌++◌, length, take, Some, None, Option, Result}
use Rattle.faults.specs.declared.fault.Fault.{Fault}
use Rattle.faults.specs.Faults.{Fills, Refused, shown}
use Rattle.leaf.specs.Kind.{Kind, Lawful, before}
use Rattle.list.specs.Lists.{All, Pairs, Placed}
use Rattle.list.specs.Sheets.{Outcome, accepted_at, is_full, put_in, sheet_outcome}
use Rattle.list.specs.Runs.{Call, Allowed, Promised, reading, run}
use Rattle.list.specs.Seen.{Seen, answer_of, held_after, lines_seen, read_after}
use Rattle.list.specs.declared.leaves.Leaves.{Leaves}
use Rattle.list.specs.declared.sheets.SheetAnswer.{SheetAnswer}

abbrev pub stopped : Option Fault → Option Refused
stopped None = None
stopped (Some f) = Some (shown f)

-- the answer to a sheet: how many leaves it had accepted, the byte to go on from, and what stopped it
pub record Tells {L : Type 0} (a : SheetAnswer) (o : Outcome L) : Type 0 where
  pub accepted : a.accepted ≡ length o.taken
  pub start : a.start ≡ o.start
  pub fault : stopped a.fault ≡ o.stop

module _ {V L : Type 0} where
  -- the leaves held: never more than the table has places
  abbrev pub held_of : Leaves V L → List L
  held_of l = take l.held l.table.now

  abbrev pub places_of : Leaves V L → ℕ
  places_of l = length l.table.now

  -- the same places of the caller, and as many of them
  pub record SameTable (l l' : Leaves V L) : Type 0 where
    pub lent : l'.table.ghost_name ≡ l.table.ghost_name
    pub places : places_of l' ≡ places_of l

  abbrev pub seen_of : Leaves V L → Seen L
  seen_of l = record { places = places_of l; held = held_of l; read = l.canonical }

  -- of two lists the same is seen, whatever stands in their tables past the leaves held
  pub record SameSeen (l m : Leaves V L) : Type 0 where
    pub places : places_of l ≡ places_of m
    pub held : held_of l ≡ held_of m
    pub read : l.canonical ≡ m.canonical

  module _ (k : Kind V L) where
    abbrev pub lines_of : Leaves V L → List L
    lines_of l = lines_seen k (seen_of l)

    -- where the flag is set, a reading changes nothing
    abbrev pub Settled : Leaves V L → Type 0
    Settled l = l.canonical ≡ true → reading k (held_of l) ≡ held_of l

    -- all held leaves are lawful and in order, and the flag is right
    pub record Sound (l : Leaves V L) : Type 0 where
      pub lawful : All (Lawful k) (held_of l)
      pub ascending : Pairs (λ a b. before k a b ≡ true) (held_of l)
      pub settled : Settled l

    -- the run leads to the list
    pub record Leads (cs : List (Call V L)) (l : Leaves V L) : Type 0 where
      pub allowed : All (Allowed k) cs
      pub held : held_of l ≡ run k (places_of l) cs
      pub settled : Settled l

    -- a run that leads to l leads with one more call to l'
    abbrev pub LeadsOn : Call V L → Leaves V L → Leaves V L → Type 0
    LeadsOn c l l' = (cs : List (Call V L)) → Leads cs l → Leads (cs ++ c ∷ []) l'

    -- whatever run led to l, the leaves held by l' are the lines that are promised of it
    abbrev pub KeepsPromises : Leaves V L → Leaves V L → Type 0
    KeepsPromises l l' = (cs : List (Call V L)) → Leads cs l → Promised k (places_of l) cs (held_of l')

    -- in a sound list a lawful leaf for which there is a place stands behind all that are no later and before all that are later
    abbrev pub PutsIn : L → Leaves V L → Leaves V L → Type 0
    PutsIn x l l' = Sound l → Lawful k x → is_full (places_of l) (held_of l) ≡ false → Placed (before k) x (held_of l) (held_of l')

    -- the leaf that stands there is put into its place, and r says where it ends; or r refuses it, and the leaves held stay
    abbrev pub TakesLeaf : List ℕ → ℕ → Leaves V L → Leaves V L → Result ℕ Fault → Type 0
    TakesLeaf bytes at l l' r = Fills (put_in (before k) (held_of l) (accepted_at k (places_of l) bytes at (held_of l))) (held_of l) (held_of l') r

    -- the answer is what comes of the sheet in l
    abbrev pub TellsOf : List ℕ → Leaves V L → SheetAnswer → Type 0
    TellsOf bytes l a = Tells a (sheet_outcome k (places_of l) bytes (held_of l))

    -- free places are not seen: two lists of which the same is seen answer every call alike, and the same is seen of them then
    pub record FreePlacesUnseen : Type 0 where
      pub answers : (l m : Leaves V L) → SameSeen l m → (c : Call V L) → answer_of k (seen_of l) c ≡ answer_of k (seen_of m) c
      pub held : (l m : Leaves V L) → SameSeen l m → (c : Call V L) → held_after k (seen_of l) c ≡ held_after k (seen_of m) c
      pub read : (l m : Leaves V L) → SameSeen l m → (c : Call V L) → read_after k (seen_of l) c ≡ read_after k (seen_of m) c
