-- A batch of sheets, a line of hexadecimal each.
use Rattle.std.specs.Prelude.{ℕ, Bool, true, false, List, [], ◌∷◌, map, take, Some, None, Option}
use Rattle.hex_text.specs.Hex.{hex_of}
use Rattle.notation.specs.Text.{index_of, lines_of}

-- the bytes before a comment, which begins with #
abbrev pub bytes_in : List ℕ → Option (List ℕ)
bytes_in line = hex_of (take (index_of 35 line) line)

-- a line of a batch: not hexadecimal, without bytes, or a sheet
pub data Line : Type 0 where
  malformed : Line
  blank : Line
  sheet : List ℕ → Line

abbrev pub line_with : Option (List ℕ) → Line
line_with None = malformed
line_with (Some []) = blank
line_with (Some (b ∷ bs)) = sheet (b ∷ bs)

-- what the lines of a batch are
abbrev pub batch_lines : List ℕ → List Line
batch_lines batch = map (λ line. line_with (bytes_in line)) (lines_of batch)

-- the sheets among them, in order
abbrev pub sheets_of : List Line → List (List ℕ)
sheets_of [] = []
sheets_of (malformed ∷ ls) = sheets_of ls
sheets_of (blank ∷ ls) = sheets_of ls
sheets_of (sheet bytes ∷ ls) = bytes ∷ sheets_of ls

abbrev pub is_malformed : Line → Bool
is_malformed malformed = true
is_malformed blank = false
is_malformed (sheet bytes) = false
