-- What a question about an amount leaf comes to.
use Rattle.std.specs.Prelude.{ℕ, List, ℤ, Ok, Err, Option, Result}
use Rattle.divisors.specs.declared.fraction.Fraction.{Fraction}
use Rattle.notation.specs.Text.{divisors_of}
use Rattle.faults.specs.Faults.{Refused}
use Rattle.leaf.specs.Kind.{admits}
use Rattle.amounts.specs.declared.amount.WrittenAmount.{WrittenAmount}
use Rattle.amounts.specs.declared.amount_leaf.AmountLeaf.{AmountLeaf}
use Rattle.amounts.specs.Amounts.{amounts}
use Rattle.amounts.specs.Making.{made_of}
use Rattle.questions.specs.Outcomes.{Outcome, answered, or_else, refused}
use Rattle.ask.specs.declared.wrong.Wrong.{Wrong}
use Rattle.ask.specs.declared.wrong.Wrong.TheVariants.{MinimumAmount, MaximumAmount, Required, Barred, Amount}
use Rattle.ask.specs.AmountTexts.{amount_bound_in, value_in}

-- the leaf is made first, then asked
abbrev pub leaf_asked : Result AmountLeaf Refused → ℤ → Outcome Wrong
leaf_asked (Ok a) v = answered (admits amounts a v)
leaf_asked (Err f) v = refused f.number

abbrev pub outcome_of : Option WrittenAmount → Option WrittenAmount → List Fraction → List Fraction → ℤ → Outcome Wrong
outcome_of low high ws us v = leaf_asked (made_of low high ws us) v

-- the text of all fields is looked at first
abbrev pub amount_outcome : List ℕ → List ℕ → List ℕ → List ℕ → List ℕ → Outcome Wrong
amount_outcome minimum maximum required barred value =
    or_else MinimumAmount (amount_bound_in minimum) (λ low. or_else MaximumAmount (amount_bound_in maximum) (λ high.
    or_else Required (divisors_of required) (λ ws. or_else Barred (divisors_of barred) (λ us. or_else Amount (value_in value) (λ v. outcome_of low high ws us v)))))
