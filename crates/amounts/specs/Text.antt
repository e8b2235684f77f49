-- The text of a line: minimum, maximum, required, barred, one space between; `*` is an absent bound, `-` an empty list, commas part divisors.
use Rattle.std.specs.Prelude.{ℕ, cond, List, [], ◌∷◌, ◌++◌, ℤ, Some, None, decimal, Option, ◌==◌}
use Rattle.std.specs.Fmt.{signed_decimal}
use Rattle.divisors.specs.declared.fraction.Fraction.{Fraction}
use Rattle.amounts.specs.declared.amount_leaf.AmountLeaf.{AmountLeaf}
use Rattle.amounts.specs.Leaves.{barred, required}

abbrev pub bound_text : Option ℤ → List ℕ
bound_text None = 42 ∷ []
bound_text (Some z) = signed_decimal z

-- a whole one without its denominator
abbrev pub fraction_text : Fraction → List ℕ
fraction_text f = decimal f.p ++ cond (f.q == 1) [] (47 ∷ decimal f.q)

abbrev pub more_text : List Fraction → List ℕ
more_text [] = []
more_text (f ∷ fs) = 44 ∷ (fraction_text f ++ more_text fs)

abbrev pub list_text : List Fraction → List ℕ
list_text [] = 45 ∷ []
list_text (f ∷ fs) = fraction_text f ++ more_text fs

abbrev pub text_of : Option ℤ → Option ℤ → List Fraction → List Fraction → List ℕ
text_of low high rs bs = (bound_text low ++ (32 ∷ (bound_text high ++ 32 ∷ []))) ++ (list_text rs ++ (32 ∷ (list_text bs ++ 10 ∷ [])))

unfoldable pub line_text : AmountLeaf → List ℕ
line_text a = text_of a.bounds.minimum a.bounds.maximum (required a) (barred a)
