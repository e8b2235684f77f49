-- Required lists as they are kept.
use Rattle.std.specs.Prelude.{Bool, true, not, ◌&&◌, List, [], ◌∷◌, is_some, nat_lt}
use Rattle.divisors.specs.declared.fraction.Fraction.{Fraction}
use Rattle.divisors.specs.Joining.{join_of, strip_by}
use Rattle.divisors.specs.Lists.{are_reduced, ascends, every}

-- each numerator is above 1
abbrev pub are_more : List Fraction → Bool
are_more fs = every (λ f. nat_lt 1 f.p) fs

-- the fraction joins none of the list
abbrev pub alone : Fraction → List Fraction → Bool
alone f gs = every (λ g. not (is_some (join_of f g))) gs

-- no two join
abbrev pub joinless : List Fraction → Bool
joinless [] = true
joinless (f ∷ fs) = alone f fs && joinless fs

-- the fraction strips none of the list, and none strips it
abbrev pub firm : Fraction → List Fraction → Bool
firm f gs = every (λ g. not (is_some (strip_by f g)) && not (is_some (strip_by g f))) gs

-- none strips another
abbrev pub stripless : List Fraction → Bool
stripless [] = true
stripless (f ∷ fs) = firm f fs && stripless fs

-- reduced fractions with numerators above 1, ascending, without repeats, nothing left to join or to strip
abbrev pub settled : List Fraction → Bool
settled fs = are_reduced fs && (are_more fs && (ascends fs && (joinless fs && stripless fs)))
