-- What the program prints.
use Rattle.std.specs.Prelude.{ℕ, cond, List, [], ◌∷◌, ◌++◌, codes, flat_map, ◌==◌}
use Rattle.std.specs.Fmt.{decimal}
use Rattle.divisors.specs.declared.fraction.Fraction.{Fraction}
use Rattle.fold.specs.declared.answer.Wrong.{Wrong}
use Rattle.fold.specs.declared.answer.Wrong.TheVariants.{NotTwoLists, NoRequiredList, NoBarredList}
use Rattle.fold.specs.Outcomes.{Counts, Outcome, lists, refused, malformed}

-- a whole divisor is written without its denominator
abbrev pub divisor_text : Fraction → List ℕ
divisor_text f = decimal f.p ++ cond (f.q == 1) [] (codes "/" ++ decimal f.q)

-- one more behind a comma
abbrev pub more_text : Fraction → List ℕ
more_text f = codes "," ++ divisor_text f

-- divisors with commas between, a dash for none
abbrev pub list_text : List Fraction → List ℕ
list_text [] = codes "-"
list_text (f ∷ fs) = divisor_text f ++ flat_map more_text fs

-- what is wrong with a line
abbrev pub wrong_text : Wrong → List ℕ
wrong_text NotTwoLists = codes "not two lists with a space between"
wrong_text NoRequiredList = codes "the required list is no list of divisors"
wrong_text NoBarredList = codes "the barred list is no list of divisors"

-- what line k comes to: the two lists, the refusal's number, or the line named with what is wrong with it
abbrev pub line_text : ℕ → Outcome → List ℕ
line_text k (lists rs bs) = list_text rs ++ (codes " " ++ (list_text bs ++ codes "\n"))
line_text k (refused n) = codes "refused " ++ (decimal n ++ codes "\n")
line_text k (malformed w) = codes "line " ++ (decimal k ++ (codes ": " ++ (wrong_text w ++ codes "\n")))

-- how many lines came to what
abbrev pub tally_text : Counts → List ℕ
tally_text c = codes "folded " ++ (decimal c.folds ++ (codes ", refused " ++ (decimal c.refusals ++ (codes ", malformed " ++ decimal c.others))))
