-- The lists that working lists and plain rows hold.
use Rattle.std.specs.Prelude.{◌-◌, Bool, ◌&&◌, ◌++◌, List, length, replicate, take, drop, ◌==◌, nat_le}
use Rattle.divisors.specs.declared.fraction.Fraction.{Fraction}
use Rattle.divisors.specs.declared.row.Row.{Row}
use Rattle.divisors.specs.declared.working.Working.{Working}
use Rattle.divisors.specs.Fractions.{none, same}
use Rattle.divisors.specs.Lists.{every}
use Rattle.divisors.specs.Settled.{settled}
use Rattle.divisors.specs.Dividing.{thinned}

-- the fractions that a working list holds
abbrev pub held : Working → List Fraction
held w = take w.count w.items

-- the fractions that a row holds
abbrev pub fractions : Row → List Fraction
fractions r = take r.count r.items

-- the row that holds a list, with its free places
abbrev pub row_of : List Fraction → Row
row_of fs = record { items = fs ++ replicate (6 - length fs) none; count = length fs }

-- six places, and those past the count are free: so rows of equal lists are equal
abbrev pub padded : Row → Bool
padded r = nat_le r.count 6 && (length r.items == 6 && every (λ f. same f none) (drop r.count r.items))

-- a row that holds a folded list
abbrev pub is_folded : Row → Bool
is_folded r = padded r && settled (fractions r)

-- a row that holds a thinned list
abbrev pub is_thinned : Row → Bool
is_thinned r = padded r && thinned (fractions r)
