-- What may stand on a sheet: a byte alone, or a number.
use Rattle.std.specs.Prelude.{◌≡◌, ℕ, List, [], ◌∷◌, drop}
use Rattle.faults.specs.Faults.{Answer}
use Rattle.leaf.specs.Numbers.{number_at}
use Rattle.leaf.specs.Reading.{byte_at}
use Rattle.leaf.specs.Encoding.{Written, CutShort, Overlong}

pub data Shape : Type 0 where
  byte : Shape
  number : Shape

-- n stands at the front of these bytes, on so many of them
abbrev pub Stands : Shape → List ℕ → ℕ → ℕ → Type 0
Stands byte bytes n size = (bytes ≡ n ∷ drop 1 bytes) × (size ≡ 1)
Stands number bytes n size = Written bytes n size

-- the bytes end before it does
abbrev pub Ends : Shape → List ℕ → Type 0
Ends byte bytes = bytes ≡ []
Ends number bytes = CutShort bytes

-- what stands there is no number: not the shortest, or 2^64 and up
abbrev pub Misspelt : Shape → List ℕ → Type 0
Misspelt byte bytes = ⊥
Misspelt number bytes = Overlong bytes

-- what is read of a shape
abbrev pub shape_at : Shape → List ℕ → ℕ → Answer ℕ
shape_at byte s at = byte_at s at
shape_at number s at = number_at s at
