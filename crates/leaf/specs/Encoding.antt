-- How a number stands in a sheet, whatever reads it: what is written, what breaks off, what is no number.
use Rattle.std.specs.Prelude.{◌≡◌, ℕ, zero, suc, ◌+◌, ◌*◌, ◌/◌, ◌%◌, ◌^◌, ◌<◌, ◌≤◌, cond, ◌⊎◌, ◌↔◌, List, [], ◌∷◌, ◌++◌, length, take, drop, nat_lt}
use Rattle.faults.specs.Faults.{Answer, found, refused, at_byte}
use Rattle.leaf.specs.Numbers.{number_at}

-- each of these bytes has its top bit set: another group follows
abbrev pub Follow : List ℕ → Type 0
Follow [] = Unit {0}
Follow (b ∷ bs) = (128 ≤ b) × Follow bs

-- groups of seven bits, lowest group first, `last` the highest
abbrev pub value : List ℕ → ℕ → ℕ
value [] last = last
value (b ∷ bs) last = b % 128 + 128 * value bs last

-- a row of groups up to its last one stands at the front of these bytes
pub record Spelt (bytes : List ℕ) : Type 0 where
  pub front : List ℕ
  pub last : ℕ
  pub rest : List ℕ
  pub bytes_are : bytes ≡ front ++ last ∷ rest
  pub follow : Follow front
  pub ends : last < 128

-- in its shortest form (the last group is 0 only for the number 0) and below 2^64
abbrev pub Proper : {bytes : List ℕ} → Spelt bytes → Type 0
Proper w = (w.last ≡ 0 → w.front ≡ []) × (value w.front w.last < 2 ^ 64)

-- not in its shortest form, or 2^64 and up
abbrev pub Improper : {bytes : List ℕ} → Spelt bytes → Type 0
Improper w = ((w.last ≡ 0) × (0 < length w.front)) ⊎ (2 ^ 64 ≤ value w.front w.last)

-- the number n of so many bytes
abbrev pub Written : List ℕ → ℕ → ℕ → Type 0
Written bytes n size = (w : Spelt bytes) × Proper w × (n ≡ value w.front w.last) × (size ≡ length w.front + 1)

-- the bytes end before a last group, and before the tenth
abbrev pub CutShort : List ℕ → Type 0
CutShort bytes = Follow bytes × (length bytes < 10)

-- a last group within ten bytes, but no proper number; or none of ten bytes is the last
abbrev pub Overlong : List ℕ → Type 0
Overlong bytes = ((w : Spelt bytes) × (length w.front < 10) × Improper w) ⊎ (Follow (take 10 bytes) × (10 ≤ length bytes))

-- Each answer comes on its condition and on no other.
pub record Judged (sheet : List ℕ) (start : ℕ) (a : Answer ℕ) : Type 0 where
  pub read : (n size : ℕ) → (a ≡ found n (start + size)) ↔ (Written (drop start sheet) n size)
  pub two : (a ≡ refused (at_byte 2 (length sheet))) ↔ (CutShort (drop start sheet))
  pub three : (a ≡ refused (at_byte 3 start)) ↔ (Overlong (drop start sheet))

abbrev pub Numbers : Type 0
Numbers = (sheet : List ℕ) (start : ℕ) → Judged sheet start (number_at sheet start)

-- one of the three, and no two, holds of any bytes
abbrev pub OneOfThree : List ℕ → Type 0
OneOfThree bytes =
    (((n : ℕ) × (size : ℕ) × Written bytes n size) ⊎ CutShort bytes ⊎ Overlong bytes)
    × (CutShort bytes → Overlong bytes → ⊥)
    × ((n size : ℕ) → Written bytes n size → (CutShort bytes → ⊥) × (Overlong bytes → ⊥))
    × ((n m size length : ℕ) → Written bytes n size → Written bytes m length → (n ≡ m) × (size ≡ length))

-- The bytes of a number: below 128 it is its own byte, else its lowest seven bits with the top bit set, then the bytes of the rest.
abbrev pub encoded : ℕ → ℕ → List ℕ
encoded zero n = n ∷ []
encoded (suc k) n = cond (nat_lt n 128) (n ∷ []) ((128 + n % 128) ∷ encoded k (n / 128))

-- nine groups and a last one are enough below 2^70
abbrev pub encode : ℕ → List ℕ
encode n = encoded 9 n

-- these bytes are those of the number n, and a rest
unfoldable pub IsEncoded : ℕ → List ℕ → List ℕ → Type 0
IsEncoded n bytes rest = bytes ≡ encode n ++ rest

abbrev pub Bytes : List ℕ → Type 0
Bytes [] = Unit {0}
Bytes (b ∷ bs) = (b < 256) × Bytes bs

-- one way to write each number: its encoding is written so, and what is written is its encoding
pub record OneToOne : Type 0 where
  pub there : (n : ℕ) (rest : List ℕ) → n < 2 ^ 64 → Written (encode n ++ rest) n (length (encode n))
  pub back : (bytes : List ℕ) (n size : ℕ) → Bytes bytes → Written bytes n size → (take size bytes ≡ encode n) × (n < 2 ^ 64)

-- Refusal 2 is for bytes that more bytes could make a number of, refusal 3 for those that none can.
abbrev pub Beginning : List ℕ → Type 0
Beginning bytes = (more : List ℕ) × (n : ℕ) × (size : ℕ) × Written (bytes ++ more) n size

pub record Told : Type 0 where
  pub two : (bytes : List ℕ) → (CutShort bytes) ↔ (Beginning bytes × ((n size : ℕ) → Written bytes n size → ⊥))
  pub three : (bytes : List ℕ) → (Overlong bytes) ↔ (Beginning bytes → ⊥)

-- the shortest form is that: no fewer bytes spell the same number
abbrev pub Shortest : Type 0
Shortest = (bytes others : List ℕ) (w : Spelt bytes) (v : Spelt others) → (w.last ≡ 0 → w.front ≡ []) → value w.front w.last ≡ value v.front v.last → length w.front ≤ length v.front

-- how numbers stand in a sheet: which bytes are read as which number, which are refused with 2 and which with 3
pub record NumberLaws : Type 0 where
  pub judged : Numbers
  pub parted : (bytes : List ℕ) → OneOfThree bytes
  pub paired : OneToOne
  pub told : Told
  pub shortest : Shortest

-- shut, so that callers go by the equation alone
unfoldable pub NumbersStand : Type 0
NumbersStand = NumberLaws
