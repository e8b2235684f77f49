-- What a list makes of a sheet, said of the sheet's bytes.
use Rattle.std.specs.Prelude.{◌≡◌, ℕ, ◌-◌, ◌<◌, ◌≤◌, Bool, true, false, ◌↔◌, ◌⊎◌, List, [], length, take, Some, None}
use Rattle.faults.specs.declared.fault.Refusal.{Refusal}
use Rattle.faults.specs.declared.fault.Refusal.TheVariants.{TooLong, EndsEarly, BadNumber, UnknownByte, BadPart, ManyDivisors, OutOfRange, MinAboveMax, BadWeekdays, TableFull, ShortBuffer}
use Rattle.faults.specs.Faults.{at_byte, number_of}
use Rattle.leaf.specs.Kind.{Kind, Lawful, before, first_of, layout_of}
use Rattle.leaf.specs.Layouts.{LeafStands, is_written_window}
use Rattle.leaf.specs.Plans.{BadNumber as NoNumber, EndsEarly as SheetEnds, Unfit}
use Rattle.list.specs.Lists.{All, inserted_all}
use Rattle.list.specs.Encoded.{IsLeaf, leaves_of, sheet_bytes}
use Rattle.list.specs.Held.{held_of, places_of, stopped}
use Rattle.list.specs.Sheets.{sheet_outcome}
use Rattle.list.specs.declared.leaves.Leaves.{Leaves}
use Rattle.list.specs.declared.sheets.SheetAnswer.{SheetAnswer}

module _ {V L : Type 0} (k : Kind V L) where
  -- in a table of n places, in which the leaves h are held
  module _ (n : ℕ) (bytes : List ℕ) (h : List L) where
    -- up to this byte the sheet is a byte of the kind and the bytes of these leaves, and the table has free places for them
    pub record TakenTo (at : ℕ) (ws : List k.Written) : Type 0 where
      pub short : length bytes ≤ 32768
      pub of_kind : k.kind_byte (first_of bytes) ≡ true
      pub leaves : All (IsLeaf k (first_of bytes)) ws
      pub stand : take at bytes ≡ sheet_bytes k (first_of bytes) ws
      pub within : at ≤ length bytes
      pub room : length ws ≤ n - length h

    -- the leaves up to this byte are taken, and the sheet goes on there
    pub record LeafDue (at : ℕ) : Type 0 where
      pub leaves : List k.Written
      pub taken : TakenTo at leaves
      pub goes_on : at < length bytes

    -- of the leaf that is due, the first field that is not in order is one in which the sheet ends,
    abbrev pub EndsInField : Type 0
    EndsInField = (at : ℕ) × LeafDue at × SheetEnds (layout_of k bytes).table bytes (layout_of k bytes).plan at

    -- one in which no number stands, which names its byte,
    abbrev pub HasBadNumber : ℕ → Type 0
    HasBadNumber p = (at : ℕ) × LeafDue at × NoNumber (layout_of k bytes).table bytes (layout_of k bytes).plan at p

    -- or one in which that may not stand which stands there: of the number and the byte that the kind's table of fields says
    abbrev pub HasUnfitField : ℕ → ℕ → Type 0
    HasUnfitField m p = (at : ℕ) × LeafDue at × Unfit (layout_of k bytes).table bytes (layout_of k bytes).plan at m p

    -- all fields of the leaf that stands there are in order, and its minimum is at most its maximum, or is not
    abbrev pub HasLeaf : Bool → ℕ → Type 0
    HasLeaf ordered at = (w : k.Written) × (end : ℕ) × LeafStands (layout_of k bytes) bytes at w end × (is_written_window (layout_of k bytes) w ≡ ordered)

    -- its first byte is none of the kind's
    abbrev pub IsOtherKind : Type 0
    IsOtherKind = (length bytes ≤ 32768) × (0 < length bytes) × (k.kind_byte (first_of bytes) ≡ false)

    -- by which refusal the sheet is stopped, and which byte that names
    abbrev pub StopsBy : Refusal → ℕ → Type 0
    -- 1: it has more than 32,768 bytes; byte 0
    StopsBy TooLong p = (p ≡ 0) × (32768 < length bytes)
    -- 2: it is empty, or ends in a leaf; its length
    StopsBy EndsEarly p = (p ≡ length bytes) × ((bytes ≡ []) ⊎ EndsInField)
    -- 3: a number is not in shortest form, or is 2^64 and up; its first byte
    StopsBy BadNumber p = HasBadNumber p
    -- 4: the first byte is none of the kind's, and is named; or as the four that follow
    StopsBy UnknownByte p = ((p ≡ 0) × IsOtherKind) ⊎ HasUnfitField 4 p
    -- 5, 6, 7 and 9: in a field stands what the kind's table of fields refuses with that number; the byte that the table says
    StopsBy BadPart p = HasUnfitField 5 p
    StopsBy ManyDivisors p = HasUnfitField 6 p
    StopsBy OutOfRange p = HasUnfitField 7 p
    -- 8: a minimum is above its maximum; the leaf's first byte
    StopsBy MinAboveMax p = LeafDue p × HasLeaf false p
    StopsBy BadWeekdays p = HasUnfitField 9 p
    -- 10: the table is full, and another leaf stands there; that leaf's first byte
    StopsBy TableFull p = (d : LeafDue p) × (length d.leaves ≡ n - length h) × HasLeaf true p
    -- 11 stops no sheet
    StopsBy ShortBuffer p = ⊥

    -- of the answer, and of the leaves held then
    module _ (a : SheetAnswer) (h' : List L) where
      -- the fault is this refusal, at this byte, of its number's layer
      abbrev pub Refuses : Refusal → ℕ → Type 0
      Refuses r p = stopped a.fault ≡ Some (at_byte (number_of r) p)

      pub record TakesSheet : Type 0 where
        -- the sheet is taken whole, or stopped by one refusal
        pub ends : (a.fault ≡ None) ⊎ ((r : Refusal) × (p : ℕ) × Refuses r p)
        -- taken whole exactly if nothing but leaves follows the byte of the kind, and the table has free places for them;
        pub whole : (a.fault ≡ None) ↔ ((ws : List k.Written) × TakenTo (length bytes) ws)
        -- stopped by each refusal, at each byte, exactly on its condition
        pub refuses : (r : Refusal) (p : ℕ) → Refuses r p ↔ StopsBy r p
        -- the leaves that are accepted stand there up to the start, as many as can be taken; without a byte of the kind there are none, and the start is 0
        pub leaves : List k.Written
        pub stand : TakenTo a.start leaves ⊎ ((a.start ≡ 0) × (leaves ≡ []))
        pub most : (at : ℕ) (ws : List k.Written) → TakenTo at ws → at ≤ a.start
        -- they are counted, are lawful, and were inserted in turn
        pub accepted : a.accepted ≡ length leaves
        pub lawful : All (Lawful k) (leaves_of k (first_of bytes) leaves)
        pub held : h' ≡ inserted_all (before k) (leaves_of k (first_of bytes) leaves) h
        -- they are those of the sheet's outcome, by which runs go
        pub taken : leaves_of k (first_of bytes) leaves ≡ (sheet_outcome k n bytes h).taken
        -- which field, which test and which byte is meant by 4 to 9 but 8, in the kind's words
        pub words : k.Refusals bytes

  -- the same of a list before and after
  abbrev pub Takes : List ℕ → Leaves V L → Leaves V L → SheetAnswer → Type 0
  Takes bytes l l' a = TakesSheet (places_of l) bytes (held_of l) a (held_of l')
