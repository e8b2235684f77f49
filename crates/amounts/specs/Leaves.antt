-- Amount leaves: a window with a rule.
use Rattle.std.specs.Prelude.{Bool, List, ℤ, Option, int_le}
use Rattle.divisors.specs.declared.fraction.Fraction.{Fraction}
use Rattle.divisors.specs.Rows.{fractions, row_of}
use Rattle.amounts.specs.Values.{is_amount}
use Rattle.divisors.specs.Written.{barred_of, required_of}
use Rattle.leaf.specs.Kind.{ext_le, from, upto}
use Rattle.leaf.specs.Plans.{fits_if}
use Rattle.amounts.specs.declared.amount_leaf.AmountLeaf.{AmountLeaf}

abbrev pub required : AmountLeaf → List Fraction
required a = fractions a.required

abbrev pub barred : AmountLeaf → List Fraction
barred a = fractions a.barred

abbrev pub is_bound : Option ℤ → Bool
is_bound o = fits_if is_amount o

-- minimum at most maximum, where both are there
abbrev pub is_window : Option ℤ → Option ℤ → Bool
is_window low high = ext_le int_le (from low) (upto high)

-- the leaf of bounds and divisors as written
abbrev pub leaf_of : Option ℤ → Option ℤ → List Fraction → List Fraction → AmountLeaf
leaf_of low high ws us = record { bounds = record { minimum = low; maximum = high }; required = row_of (required_of ws); barred = row_of (barred_of us) }
