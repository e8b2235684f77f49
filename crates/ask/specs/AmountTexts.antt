-- Amounts as text.
use Rattle.std.specs.Prelude.{ℕ, cond, List, ℤ, Some, None, Option}
use Rattle.std.specs.Option.{option_map}
use Rattle.notation.specs.Text.{signed_of}
use Rattle.amounts.specs.declared.amount.WrittenAmount.{WrittenAmount}
use Rattle.amounts.specs.Values.{amount_of}
use Rattle.questions.specs.Outcomes.{and_then, is_star}

-- the amount that a text writes: an optional dash and digits
abbrev pub amount_in : List ℕ → Option WrittenAmount
amount_in bs = option_map (λ n. record { magnitude = n.magnitude; negative = n.negative }) (signed_of bs)

-- the bound that a text writes, absent where it is a star
abbrev pub amount_bound_in : List ℕ → Option (Option WrittenAmount)
amount_bound_in bs = cond (is_star bs) (Some None) (option_map Some (amount_in bs))

-- the amount asked about
abbrev pub value_in : List ℕ → Option ℤ
value_in bs = and_then (amount_in bs) (λ w. amount_of w.negative w.magnitude)
