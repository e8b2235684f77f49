-- Sheets in bytes: a byte of the kind, and behind it the bytes of leaves, one after the other.
use Rattle.std.specs.Prelude.{◌≡◌, ℕ, ◌-◌, ◌≤◌, true, cond, List, [], ◌∷◌, ◌++◌, map, length, take, Some, None, nat_le}
use Rattle.faults.specs.Faults.{at_byte}
use Rattle.leaf.specs.Kind.{Kind, before}
use Rattle.leaf.specs.Layouts.{bytes_of, is_written_window, written_leaf}
use Rattle.list.specs.Lists.{All, inserted_all}
use Rattle.list.specs.Sheets.{Outcome, sheet_outcome}

module _ {V L : Type 0} (k : Kind V L) where
  -- on a sheet that begins with the byte b
  module _ (b : ℕ) where
    -- a leaf as written that can be taken: its fields are in order, and its minimum is at most its maximum
    pub record IsLeaf (w : k.Written) : Type 0 where
      pub fits : (k.layout b).fits w ≡ true
      pub window : is_written_window (k.layout b) w ≡ true

    abbrev pub leaves_bytes : List k.Written → List ℕ
    leaves_bytes [] = []
    leaves_bytes (w ∷ ws) = bytes_of (k.layout b) w ++ leaves_bytes ws

    abbrev pub sheet_bytes : List k.Written → List ℕ
    sheet_bytes ws = b ∷ leaves_bytes ws

    -- the leaves that they stand for
    abbrev pub leaves_of : List k.Written → List L
    leaves_of ws = map (written_leaf (k.layout b)) ws

    -- as many leaves are accepted as the table of n places has free ones, up to the end of the last; one more is refused 10, at its first byte
    abbrev pub written_outcome : ℕ → List k.Written → List L → Outcome L
    written_outcome n ws h =
        let room = n - length h in
        let taken = take room ws in
        let start = length (sheet_bytes taken) in
        record { taken = leaves_of taken; held = inserted_all (before k) (leaves_of taken) h; start = start; stop = cond (nat_le (length ws) room) None (Some (at_byte 10 start)) }

  pub record WrittenSheets : Type 0 where
    -- what comes of a sheet that is written from leaves
    pub written : (n b : ℕ) (ws : List k.Written) (h : List L) → k.kind_byte b ≡ true → All (IsLeaf b) ws → length (sheet_bytes b ws) ≤ 32768 → sheet_outcome k n (sheet_bytes b ws) h ≡ written_outcome b n ws h
    -- its bytes are those of no other leaves
    pub alone : (b : ℕ) (ws vs : List k.Written) → All (IsLeaf b) ws → All (IsLeaf b) vs → sheet_bytes b ws ≡ sheet_bytes b vs → ws ≡ vs
