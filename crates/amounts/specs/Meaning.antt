-- What an amount leaf admits: what it means as it is written.
use Rattle.std.specs.Prelude.{◌≡◌, true, List, ℤ, Decides, Option}
use Rattle.divisors.specs.declared.fraction.Fraction.{Fraction}
use Rattle.leaf.specs.Layouts.{written_leaf}
use Rattle.leaf.specs.Kind.{admits}
use Rattle.amounts.specs.declared.amount_leaf.AmountLeaf.{AmountLeaf}
use Rattle.amounts.specs.Values.{is_amount}
use Rattle.amounts.specs.Amounts.{amounts}
use Rattle.amounts.specs.Layout.{Written, amount_layout}
use Rattle.amounts.specs.Words.{Meant, value_of}

-- a leaf admits exactly the amounts that what was written means
abbrev pub Means : Option ℤ → Option ℤ → List Fraction → List Fraction → AmountLeaf → Type 0
Means low high ws us a = (v : ℤ) → is_amount v ≡ true → Decides (admits amounts a v) (Meant low high ws us v)

-- a leaf as written admits exactly what its amounts and divisors mean
unfoldable pub WrittenMeans : Type 0
WrittenMeans = (w : Written) → amount_layout.fits w ≡ true → Means (value_of w.low) (value_of w.high) w.rest.0 w.rest.1 (written_leaf amount_layout w)
