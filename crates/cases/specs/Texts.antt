-- The answer to a sheet, as a case writes it.
use Rattle.std.specs.Prelude.{ℕ, ◌/◌, ◌%◌, false, List, [], ◌∷◌, ◌++◌, codes, decimal, flat_map, Some, None, Option}
use Rattle.std.specs.Fmt.{digit_glyph}
use Rattle.faults.specs.Faults.{Refused, layer_name}

-- two hexadecimal digits
abbrev pub byte_text : ℕ → List ℕ
byte_text b = digit_glyph false (b / 16) ∷ digit_glyph false (b % 16) ∷ []

-- bytes in hexadecimal, a dash for none
abbrev pub bytes_text : List ℕ → List ℕ
bytes_text [] = codes "-"
bytes_text (b ∷ bs) = flat_map byte_text (b ∷ bs)

abbrev pub place_text : Option ℕ → List ℕ
place_text None = codes "-"
place_text (Some b) = decimal b

-- number, byte and layer of what refused the sheet, dashes where it is not refused
abbrev pub stop_text : Option Refused → List ℕ
stop_text None = codes "- - -"
stop_text (Some r) = decimal r.number ++ (codes " " ++ (place_text r.byte ++ (codes " " ++ layer_name r.layer)))

-- leaves accepted, the start, and what refused the sheet
abbrev pub told_text : ℕ → ℕ → Option Refused → List ℕ
told_text accepted start stop = decimal accepted ++ (codes " " ++ (decimal start ++ (codes " " ++ stop_text stop)))

-- and then what `lines` prints
abbrev pub answer_text : ℕ → ℕ → Option Refused → List ℕ → List ℕ
answer_text accepted start stop output = told_text accepted start stop ++ (codes " " ++ bytes_text output)
