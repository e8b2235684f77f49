-- Kept lists: the fractions that they hold, and what a plain row holds.
use Rattle.std.specs.Prelude.{◌≡◌, false, List, MatchOption, Option}
use Rattle.divisors.specs.declared.folded.Folded.{Folded}
use Rattle.divisors.specs.declared.fraction.Fraction.{Fraction}
use Rattle.divisors.specs.declared.row.Row.{Row}
use Rattle.divisors.specs.declared.thinned.Thinned.{Thinned}
use Rattle.divisors.specs.Rows.{fractions, is_folded, is_thinned}

-- the fractions of a folded list
abbrev pub required_in : Folded → List Fraction
required_in f = fractions f.row

-- the fractions of a thinned list
abbrev pub barred_in : Thinned → List Fraction
barred_in t = fractions t.row

-- the folded list that a row holds; nothing where it holds none
abbrev pub FoldedIn : Row → Option Folded → Type 0
FoldedIn r o = MatchOption o (is_folded r ≡ false) (λ f. f.row ≡ r)

-- the thinned list that a row holds; nothing where it holds none
abbrev pub ThinnedIn : Row → Option Thinned → Type 0
ThinnedIn r o = MatchOption o (is_thinned r ≡ false) (λ t. t.row ≡ r)
