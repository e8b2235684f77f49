-- What an amount leaf as written means, in the words of minimum, maximum, multipleOf and not.
use Rattle.std.specs.Prelude.{◌≡◌, List, ℤ, ◌≤ℤ◌, Some, Option}
use Rattle.divisors.specs.declared.fraction.Fraction.{Fraction}
use Rattle.divisors.specs.Written.{Admits, Spares}
use Rattle.leaf.specs.Windows.{written}
use Rattle.amounts.specs.declared.amount.WrittenAmount.{WrittenAmount}
use Rattle.amounts.specs.Making.{amount_in}

-- v is at least the minimum and at most the maximum where they are there, its division by each required divisor gives an
-- integer (v * q is a whole multiple of p), and its division by no barred one does
pub record Meant (low high : Option ℤ) (required barred : List Fraction) (v : ℤ) : Type 0 where
  pub minimum : (x : ℤ) → low ≡ Some x → x ≤ℤ v
  pub maximum : (y : ℤ) → high ≡ Some y → v ≤ℤ y
  pub multiple : Admits required v
  pub spared : Spares barred v

-- the value of a bound as written
abbrev pub value_of : Option WrittenAmount → Option ℤ
value_of bound = written amount_in bound
