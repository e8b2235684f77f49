-- What replaying answers comes to: by a test, `holds`, that a line has the answer that it expects.
use Rattle.std.specs.Prelude.{ℕ, Bool, false, cond, not, ◌&&◌, List, [], ◌∷◌, ◌++◌, count_by, codes, decimal, ◌==◌}
use Rattle.notation.specs.Numbered.{numbered}
use Rattle.notation.specs.Text.{lines_of}

-- neither a comment nor an empty line
abbrev pub is_case : List ℕ → Bool
is_case [] = false
is_case (b ∷ bs) = not (b == 35)

module _ (holds : List ℕ → Bool) where
  -- a case whose answer is another
  abbrev pub differs : List ℕ → Bool
  differs line = is_case line && not (holds line)

  -- what is printed of line k
  abbrev pub difference : ℕ → List ℕ → List ℕ
  difference k line = cond (differs line) (codes "line " ++ (decimal k ++ codes ": different\n")) []

  -- how many of the lines are cases, and how many of them differ
  abbrev pub tally_text : List (List ℕ) → List ℕ
  tally_text lines = codes "replayed " ++ (decimal (count_by is_case lines) ++ (codes ", different " ++ (decimal (count_by differs lines) ++ codes "\n")))

  -- what is printed of a text
  abbrev pub output_of : List ℕ → List ℕ
  output_of text = numbered difference 1 (lines_of text) ++ tally_text (lines_of text)
