-- Texts in a buffer.
use Rattle.std.specs.Prelude.{◌≡◌, ℕ, ◌+◌, ◌-◌, ◌<◌, ◌≤◌, List, [], ◌∷◌, ◌++◌, length, take, drop, Ok, Err, Result}
use Rattle.faults.specs.declared.fault.Fault.{Fault}
use Rattle.faults.specs.Faults.{Refused, unplaced, told}

-- as much of a text as the buffer has room for from `at` on
abbrev pub fitting : List ℕ → ℕ → List ℕ → List ℕ
fitting buf at t = take (length buf - at) t

-- the buffer with a text from `at` on, and all else as it was
abbrev pub over : List ℕ → ℕ → List ℕ → List ℕ
over buf at t = take at buf ++ (t ++ drop (at + length t) buf)

-- as much of the text as there is room for stands at `at`, its end is answered, and all else is as it was
pub record Wrote (old : List ℕ) (at : ℕ) (t new : List ℕ) (r : ℕ) : Type 0 where
  pub end : r ≡ at + length (fitting old at t)
  pub bytes : new ≡ over old at (fitting old at t)

-- a buffer under 600 bytes is refused, and nothing is written; in any other the text stands at the front, its length is answered, and the rest stays
pub record Texted (t old new : List ℕ) (r : Result ℕ Fault) : Type 0 where
  pub short : length old < 600 → (◌≡◌ {A = Result ℕ Refused} (told r) (Err (unplaced 11))) × (new ≡ old)
  pub long : 600 ≤ length old → (r ≡ Ok (length t)) × (new ≡ t ++ drop (length t) old)

-- the texts of a list, one after the other
abbrev pub together : {X : Type 0} → (X → List ℕ) → List X → List ℕ
together text [] = []
together text (x ∷ xs) = text x ++ together text xs
