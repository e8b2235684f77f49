-- The maker of amount leaves, and its refusals in their order: divisors (5, 6), amounts (7), the window (8).
use Rattle.std.specs.Prelude.{◌&&◌, List, ◌∷◌, length, nat_le, ℤ, Some, None, Ok, Err, Option, Result}
use Rattle.std.specs.Int.Signed.{le_z}
use Rattle.divisors.specs.declared.fraction.Fraction.{Fraction}
use Rattle.divisors.specs.Written.{are_in_range, refusal_of_both}
use Rattle.leaf.specs.declared.bounds.Bounds.{Bounds}
use Rattle.faults.specs.Faults.{Refused, then}
use Rattle.leaf.specs.Tests.{Test, Decided, window_tests}
use Rattle.leaf.specs.Windows.{window_of as window_made, written}
use Rattle.amounts.specs.declared.amount.WrittenAmount.{WrittenAmount}
use Rattle.amounts.specs.declared.amount_leaf.AmountLeaf.{AmountLeaf}
use Rattle.amounts.specs.Values.{amount_of}
use Rattle.amounts.specs.Leaves.{leaf_of}

-- the amount that is written
abbrev pub amount_in : WrittenAmount → Option ℤ
amount_in w = amount_of w.negative w.magnitude

-- a refusal of the divisors comes before all else
abbrev pub after : {A : Type 0} → Option Refused → Result A Refused → Result A Refused
after None r = r
after (Some f) r = Err f

-- bounds that are amounts, minimum at most maximum
abbrev pub window_of : Option WrittenAmount → Option WrittenAmount → Result (Bounds ℤ) Refused
window_of low high = window_made amount_in le_z low high

abbrev pub made_of : Option WrittenAmount → Option WrittenAmount → List Fraction → List Fraction → Result AmountLeaf Refused
made_of low high ws us = after (refusal_of_both ws us) (then (window_of low high) (λ w. Ok (leaf_of w.minimum w.maximum ws us)))

-- what is tested of bounds and divisors as written: all parts of divisors in range, no list of more than six, then the window
abbrev pub amount_tests : Option WrittenAmount → Option WrittenAmount → List Fraction → List Fraction → List Test
amount_tests low high ws us =
    record { holds = are_in_range ws && are_in_range us; number = 5 } ∷ record { holds = nat_le (length ws) 6 && nat_le (length us) 6; number = 6 } ∷
    window_tests amount_in le_z low high

-- the answers of the maker, each on its condition: the first test that fails gives its number, and the leaf is made where none does
unfoldable pub MakerJudged : Type 0
MakerJudged =
    (low high : Option WrittenAmount) (ws us : List Fraction) →
    Decided (amount_tests low high ws us) (leaf_of (written amount_in low) (written amount_in high) ws us) (made_of low high ws us)
