-- Which fields of an amount leaf give which refusal: each on its condition and on no other, naming the field's first byte.
use Rattle.std.specs.Prelude.{ℕ, ◌↔◌, List, true, is_some, nat_le, ⊤}
use Rattle.leaf.specs.Numbers.{are_flags}
use Rattle.leaf.specs.Plans.{Unfit, UnfitFlags, UnfitIn}
use Rattle.amounts.specs.Layout.{amount_layout, amount_table, count, is_part, magnitude, part}
use Rattle.amounts.specs.Values.{amount_of}

module _ (s : List ℕ) where
  -- of the leaf that stands at a byte, the first field that is not in order is refused so, naming p
  abbrev pub IsRefused : ℕ → ℕ → ℕ → Type 0
  IsRefused at m p = Unfit amount_table s amount_layout.plan at m p

  pub record AmountRefusals : Type 0 where
    -- 4: the leaf's first byte has an unknown bit, or a sign without its bound
    pub four : (at p : ℕ) → IsRefused at 4 p ↔ UnfitFlags amount_table s amount_layout.plan at (are_flags true) p
    -- 5: a numerator or a denominator is 0 or above 2^63 - 1
    pub five : (at p : ℕ) → IsRefused at 5 p ↔ UnfitIn amount_table s amount_layout.plan at (λ (_ : ⊤). part) (λ _. is_part) p
    -- 6: a count of divisors is above six
    pub six : (at p : ℕ) → IsRefused at 6 p ↔ UnfitIn amount_table s amount_layout.plan at (λ (_ : ⊤). count) (λ _ n. nat_le n 6) p
    -- 7: a bound is out of range, or minus zero
    pub seven : (at p : ℕ) → IsRefused at 7 p ↔ UnfitIn amount_table s amount_layout.plan at magnitude (λ negative m. is_some (amount_of negative m)) p
    -- 9 comes of no field
    pub nine : (at p : ℕ) → IsRefused at 9 p → ⊥
