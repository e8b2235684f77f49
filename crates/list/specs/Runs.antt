-- Runs of calls on one list and its table, and what the lines after a run are held to.
use Rattle.std.specs.Prelude.{◌≡◌, ℕ, true, false, cond, ◌↔◌, List, [], ◌∷◌, ◌++◌}
use Rattle.leaf.specs.Kind.{Kind, Lawful, same_rule, touches, admits, before, covers}
use Rattle.list.specs.Lists.{All, Any, In, Pairs, inserted, joined, kept}
use Rattle.list.specs.Sheets.{is_full, sheet_outcome}
use Rattle.list.specs.Readings.{Between, Reads, Pinned, OneReading}

-- a call: insert of a leaf, a sheet of bytes, admits of a value, is-empty, count, line of a number
pub data Call (V L : Type 0) : Type 0 where
  insert : L → Call V L
  sheet : List ℕ → Call V L
  admits? : V → Call V L
  empty? : Call V L
  count : Call V L
  line : ℕ → Call V L

module _ {V L : Type 0} (k : Kind V L) where
  -- a reading: neighbours are joined, then what another covers is dropped
  abbrev pub reading : List L → List L
  reading h = kept (covers k) (joined (touches k) k.join h)

  -- what one call does to the leaves held in a table of n places
  abbrev pub after : ℕ → List L → Call V L → List L
  after n h (insert x) = cond (is_full n h) h (inserted (before k) x h)
  after n h (sheet bytes) = (sheet_outcome k n bytes h).held
  after n h (admits? v) = h
  after n h empty? = h
  after n h count = reading h
  after n h (line i) = reading h

  -- the leaves that it accepts
  abbrev pub taken : ℕ → List L → Call V L → List L
  taken n h (insert x) = cond (is_full n h) [] (x ∷ [])
  taken n h (sheet bytes) = (sheet_outcome k n bytes h).taken
  taken n h (admits? v) = []
  taken n h empty? = []
  taken n h count = []
  taken n h (line i) = []

  -- what is held after a run, and the leaves accepted in it
  abbrev pub run_from : ℕ → List L → List (Call V L) → List L
  run_from n h [] = h
  run_from n h (c ∷ cs) = run_from n (after n h c) cs

  abbrev pub accepted_from : ℕ → List L → List (Call V L) → List L
  accepted_from n h [] = []
  accepted_from n h (c ∷ cs) = taken n h c ++ accepted_from n (after n h c) cs

  -- of a newly opened list
  abbrev pub run : ℕ → List (Call V L) → List L
  run n cs = run_from n [] cs

  abbrev pub accepted : ℕ → List (Call V L) → List L
  accepted n cs = accepted_from n [] cs

  -- the lines after a run
  abbrev pub lines : ℕ → List (Call V L) → List L
  lines n cs = reading (run n cs)

  -- leaves come lawful from makers, readers and joins
  abbrev pub Allowed : Call V L → Type 0
  Allowed (insert x) = Lawful k x
  Allowed (sheet bytes) = Unit {0}
  Allowed (admits? v) = Unit {0}
  Allowed empty? = Unit {0}
  Allowed count = Unit {0}
  Allowed (line i) = Unit {0}

  -- every call but a reading
  abbrev pub Unread : Call V L → Type 0
  Unread (insert x) = Unit {0}
  Unread (sheet bytes) = Unit {0}
  Unread (admits? v) = Unit {0}
  Unread empty? = Unit {0}
  Unread count = ⊥
  Unread (line i) = ⊥

  -- no accepted leaf comes after a reading
  pub record Late (n : ℕ) (cs : List (Call V L)) : Type 0 where
    pub first : List (Call V L)
    pub rest : List (Call V L)
    pub whole : cs ≡ first ++ rest
    pub unread : All Unread first
    pub settled : accepted_from n (run n first) rest ≡ []

  -- neither of two lines covers the other, and where they have one rule a grid value lies between them
  abbrev pub Parted : L → L → Type 0
  Parted a b = (covers k a b ≡ false) × (covers k b a ≡ false) × (same_rule k a b ≡ true → Between k a b)

  -- one of the leaves admits v
  abbrev pub Admitted : List L → V → Type 0
  Admitted xs v = Any (λ x. admits k x v ≡ true) xs

  -- what the lines of a run are held to
  pub record Promised (n : ℕ) (cs : List (Call V L)) (shown : List L) : Type 0 where
    -- they are those that the run's inserts, sheets and readings give
    pub given : shown ≡ lines n cs
    -- a value is admitted by a line exactly when an accepted leaf admits it
    pub exact : (v : V) → Admitted shown v ↔ Admitted (accepted n cs) v
    -- they ascend, one covers each accepted leaf, and each is made of accepted leaves
    pub pinned : Pinned k (accepted n cs) shown
    -- they are the reading of what is held
    pub read : Reads k (run n cs) shown
    -- and of the accepted leaves, where none of these came after a reading
    pub whole : Late n cs → Reads k (accepted n cs) shown
    -- of any two lines neither covers the other, and two of one rule have a grid value between them
    pub parted : Pairs Parted shown
    -- another run with the same accepted leaves, none after a reading in either, gives equal lines
    pub orderless : (m : ℕ) (ds : List (Call V L)) → All Allowed ds → Late n cs → Late m ds
        → ((x : L) → In x (accepted n cs) ↔ In x (accepted m ds)) → shown ≡ lines m ds

  pub record Promises : Type 0 where
    -- the lines of every run keep to it
    pub runs : (n : ℕ) (cs : List (Call V L)) → All Allowed cs → Promised n cs (lines n cs)
    -- and a reading has one answer
    pub one_reading : OneReading k
