-- The text of a refusal: its number, and the byte that it names, if it names one.
use Rattle.std.specs.Prelude.{ℕ, List, [], ◌∷◌, ◌++◌, Some, None, codes, decimal, Option}
use Rattle.faults.specs.Faults.{Refused}

abbrev pub place_text : Option ℕ → List ℕ
place_text None = []
place_text (Some byte) = codes " at " ++ decimal byte

-- refused N at P, or refused N, and a line feed
unfoldable pub refusal_text : Refused → List ℕ
refusal_text r = codes "refused " ++ (decimal r.number ++ (place_text r.byte ++ 10 ∷ []))
