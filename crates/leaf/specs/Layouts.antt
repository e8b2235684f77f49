-- A layout: the one statement of how leaves stand on a sheet, and on which condition each answer of their reader comes.
use Rattle.std.specs.Prelude.{◌≡◌, ℕ, ◌+◌, ◌<◌, ◌≤◌, ◌^◌, Bool, true, false, cond, not, ◌&&◌, ◌↔◌, ◌⊎◌, List, [], ◌∷◌, ◌++◌, length, drop, ◌==◌, nat_le, ⊤}
use Rattle.faults.specs.Faults.{Answer, found, refused, next, at_byte}
use Rattle.leaf.specs.Encoding.{Written as NumberWritten, encode}
use Rattle.leaf.specs.Fields.{byte}
use Rattle.leaf.specs.Plans.{Table, Plan, done, ask, made_at, Makes, EndsEarly, BadNumber, Unfit}

-- leaves L, each made of what its fields make
pub record Layout (Role Written Made L : Type 0) : Type 1 where
  pub table : Table Role
  pub plan : Plan Role Made
  -- its minimum is at most its maximum
  pub is_window : Made → Bool
  pub leaf : Made → L
  -- a leaf as written: the numbers in its fields, whether all of them may stand there, what they make
  pub numbers : Written → List ℕ
  pub fits : Written → Bool
  pub made : Written → Made

-- no leaf stands on any sheet
abbrev pub no_layout : {L : Type 0} → L → Layout ⊤ ⊥ ⊤ L
no_layout blank = record {
  table = record { shape = λ _. byte; fits = λ _ _. false; refusal = λ _. 4; named = λ _ at. at };
  plan = ask tt (λ _ _. done tt);
  is_window = λ _. true;
  leaf = λ _. blank;
  numbers = λ _. [];
  fits = λ _. false;
  made = λ _. tt;
}

-- the bytes of these numbers, one after the other
abbrev pub spelled : List ℕ → List ℕ
spelled [] = []
spelled (n ∷ ns) = encode n ++ spelled ns

-- the flags are a byte, and what follows are numbers
abbrev pub spelled_leaf : List ℕ → List ℕ
spelled_leaf [] = []
spelled_leaf (f ∷ ns) = f ∷ spelled ns

-- these numbers stand one after the other, from one byte to another
abbrev pub StandInTurn : List ℕ → ℕ → List ℕ → ℕ → Type 0
StandInTurn s at [] end = at ≡ end
StandInTurn s at (n ∷ ns) end = (size : ℕ) × NumberWritten (drop at s) n size × StandInTurn s (at + size) ns end

-- the same behind a flags byte
abbrev pub StandAsLeaf : List ℕ → ℕ → List ℕ → ℕ → Type 0
StandAsLeaf s at [] end = ⊥
StandAsLeaf s at (f ∷ ns) end = (drop at s ≡ f ∷ drop 1 (drop at s)) × StandInTurn s (at + 1) ns end

-- each of them can be written
abbrev pub AreNumbers : List ℕ → Type 0
AreNumbers [] = Unit {0}
AreNumbers (n ∷ ns) = (n < 2 ^ 64) × AreNumbers ns

abbrev pub AreLeafNumbers : List ℕ → Type 0
AreLeafNumbers [] = ⊥
AreLeafNumbers (f ∷ ns) = AreNumbers ns

-- the refusals of single fields: 4 to 9 without 8
abbrev pub is_of_field : ℕ → Bool
is_of_field n = nat_le 4 n && (nat_le n 9 && not (n == 8))

module _ {Role Written Made L : Type 0} (y : Layout Role Written Made L) where
  -- the leaf that stands at a byte: its window is judged after its last byte, and its first is named
  abbrev pub leaf_under : List ℕ → ℕ → Answer L
  leaf_under s at = next (made_at y.table y.plan s at) (λ m end. cond (y.is_window m) (found (y.leaf m) end) (refused (at_byte 8 at)))

  abbrev pub bytes_of : Written → List ℕ
  bytes_of w = spelled_leaf (y.numbers w)

  -- of a leaf as written, whether its minimum is at most its maximum, and the leaf that it stands for
  abbrev pub is_written_window : Written → Bool
  is_written_window w = y.is_window (y.made w)

  abbrev pub written_leaf : Written → L
  written_leaf w = y.leaf (y.made w)

  -- what a layout shows, from which all below follows
  pub record LayoutLaws : Type 0 where
    -- the refusals of its fields are those of single fields
    pub own : (r : Role) → is_of_field (y.table.refusal r) ≡ true
    -- what fits can be written
    pub below : (w : Written) → y.fits w ≡ true → AreLeafNumbers (y.numbers w)
    -- what the fields make is a leaf as written whose numbers stand there, and such a leaf is made
    pub stood : (s : List ℕ) (at : ℕ) (m : Made) (end : ℕ) → Makes y.table s y.plan at m end → (w : Written) × (y.fits w ≡ true) × (y.made w ≡ m) × StandAsLeaf s at (y.numbers w) end
    pub makes : (s : List ℕ) (at : ℕ) (w : Written) (end : ℕ) → y.fits w ≡ true → StandAsLeaf s at (y.numbers w) end → Makes y.table s y.plan at (y.made w) end
    -- past the end of a sheet a leaf is refused as at its end
    pub past : (s : List ℕ) (at : ℕ) → length s ≤ at → leaf_under s at ≡ refused (at_byte 2 (length s))
    -- no two make the same
    pub same : (w v : Written) → y.fits w ≡ true → y.fits v ≡ true → y.made w ≡ y.made v → w ≡ v

  module _ (s : List ℕ) (at : ℕ) where
    -- the bytes of a leaf as written, whose fields are in order, stand there up to another byte
    pub record LeafStands (w : Written) (end : ℕ) : Type 0 where
      pub fits : y.fits w ≡ true
      pub bytes : drop at s ≡ bytes_of w ++ drop end s
      pub ends : end ≡ at + length (bytes_of w)

    -- it is one of these answers,
    abbrev pub OneAnswer : Answer L → Type 0
    OneAnswer a =
        ((x : L) × (end : ℕ) × (a ≡ found x end)) ⊎ (a ≡ refused (at_byte 2 (length s))) ⊎ ((p : ℕ) × (a ≡ refused (at_byte 3 p)))
        ⊎ ((n : ℕ) × (p : ℕ) × (is_of_field n ≡ true) × (a ≡ refused (at_byte n p))) ⊎ ((p : ℕ) × (a ≡ refused (at_byte 8 p)))

    -- and each of them comes on its condition and on no other
    pub record LeafJudged (a : Answer L) : Type 0 where
      pub one : OneAnswer a
      -- a leaf whose fields are in order, and whose minimum is at most its maximum, is read, up to its end
      pub read : (x : L) (end : ℕ) → (a ≡ found x end) ↔ ((w : Written) × LeafStands w end × (is_written_window w ≡ true) × (x ≡ written_leaf w))
      -- 2: the first field that is not in order is one in which the sheet ends; the sheet's length is named
      pub two : (a ≡ refused (at_byte 2 (length s))) ↔ EndsEarly y.table s y.plan at
      -- 3: it is one in which no number stands, not the shortest or 2^64 and up; its first byte is named
      pub three : (p : ℕ) → (a ≡ refused (at_byte 3 p)) ↔ BadNumber y.table s y.plan at p
      -- 4 to 9 but 8: it is one in which that may not stand which stands there
      pub unfit : (n p : ℕ) → is_of_field n ≡ true → (a ≡ refused (at_byte n p)) ↔ Unfit y.table s y.plan at n p
      -- 8: all fields are in order, and the minimum is above the maximum; the flags are named
      pub eight : (p : ℕ) → (a ≡ refused (at_byte 8 p)) ↔ ((p ≡ at) × ((w : Written) × (end : ℕ) × LeafStands w end × (is_written_window w ≡ false)))
