-- What a program prints of questions.
use Rattle.std.specs.Prelude.{◌≡◌, ℕ, Bool, true, false, List, ◌++◌, codes, Some, Option}
use Rattle.std.specs.Fmt.{decimal}
use Rattle.questions.specs.Outcomes.{Counts, Outcome, answered, malformed, refused}

-- yes or no
abbrev pub yes_or_no : Bool → List ℕ
yes_or_no true = codes "yes"
yes_or_no false = codes "no"

-- the text of what line k comes to; a line of another form is named, with what is wrong as text
abbrev pub outcome_text : {M : Type 0} → (M → List ℕ) → ℕ → Outcome M → List ℕ
outcome_text wrong k (answered b) = yes_or_no b ++ codes "\n"
outcome_text wrong k (refused n) = codes "refused " ++ (decimal n ++ codes "\n")
outcome_text wrong k (malformed w) = codes "line " ++ (decimal k ++ (codes ": " ++ (wrong w ++ codes "\n")))

-- what is wrong prints as this text
abbrev pub PrintsAs : {M : Type 0} → (M → Option (List ℕ)) → (M → List ℕ) → Type 0
PrintsAs {M} output wrong = (w : M) → output w ≡ Some (wrong w)

-- the counts as text
abbrev pub tally_text : Counts → List ℕ
tally_text c = codes "answered " ++ (decimal c.answers ++ (codes ", refused " ++ (decimal c.refusals ++ (codes ", malformed " ++ decimal c.others))))
