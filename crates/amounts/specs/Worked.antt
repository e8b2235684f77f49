-- Leaves worked by hand.
use Rattle.std.specs.Prelude.{◌≡◌, ℕ, ◌-◌, ◌^◌, true, false, [], ◌∷◌, ℤ, pos, neg_ℤ, Some, None, Ok, Err}
use Rattle.divisors.specs.Laws.{over}
use Rattle.faults.specs.Faults.{found, refused, at_byte, unplaced}
use Rattle.leaf.specs.Layouts.{bytes_of}
use Rattle.amounts.specs.declared.amount_leaf.AmountLeaf.{AmountLeaf}
use Rattle.amounts.specs.Amounts.{amounts}
use Rattle.amounts.specs.Leaves.{leaf_of}
use Rattle.amounts.specs.Making.{made_of}
use Rattle.amounts.specs.Layout.{Written, amount_layout}
use Rattle.leaf.specs.Kind.{leaf_at}

abbrev pub minus : ℕ → ℤ
minus n = neg_ℤ (pos n)

-- every multiple of p, unbounded
abbrev pub by : ℕ → AmountLeaf
by p = leaf_of None None (over p 1 ∷ []) []

-- multiples of 2 up to 4, as written
abbrev pub up_to_four : Written
up_to_four = record { low = None; high = Some (record { magnitude = 4; negative = false }); rest = (over 2 1 ∷ [], []) }

pub record WorkedLeaves : Type 0 where
  -- the next on the grid: above -8, -9 and -7 by 4, and above 2^62 by itself, where there is none
  pub above_on_grid : amounts.next_on_grid (by 4) (minus 8) ≡ Some (minus 4)
  pub above_off_grid : amounts.next_on_grid (by 4) (minus 9) ≡ Some (minus 8)
  pub above_rounded : amounts.next_on_grid (by 4) (minus 7) ≡ Some (minus 4)
  pub above_none : amounts.next_on_grid (by (2 ^ 62)) (pos (2 ^ 62)) ≡ None
  -- the ends of amounts and of numerators
  pub lowest : made_of (Some (record { magnitude = 2 ^ 63; negative = true })) None [] [] ≡ Ok (leaf_of (Some (minus (2 ^ 63))) None [] [])
  pub past_highest : made_of (Some (record { magnitude = 2 ^ 63; negative = false })) None [] [] ≡ Err (unplaced 7)
  pub largest_part : made_of None None (over (2 ^ 63 - 1) 1 ∷ []) [] ≡ Ok (by (2 ^ 63 - 1))
  pub past_largest_part : made_of None None (over (2 ^ 63) 1 ∷ []) [] ≡ Err (unplaced 5)
  -- sheets of amounts, whose first leaf starts at byte 1: 41 02, 41 02 84 00, 41 03 05 04 00 00
  pub ends_early : leaf_at amounts (65 ∷ 2 ∷ []) 1 ≡ refused (at_byte 2 2)
  pub not_shortest : leaf_at amounts (65 ∷ 2 ∷ 132 ∷ 0 ∷ []) 1 ≡ refused (at_byte 3 2)
  pub minimum_above : leaf_at amounts (65 ∷ 3 ∷ 5 ∷ 4 ∷ 0 ∷ 0 ∷ []) 1 ≡ refused (at_byte 8 1)
  -- multiples of 2 up to 4, behind the kind byte: 02 04 01 02 01 00, read up to byte 7
  pub bytes : bytes_of amount_layout up_to_four ≡ 2 ∷ 4 ∷ 1 ∷ 2 ∷ 1 ∷ 0 ∷ []
  pub read : leaf_at amounts (65 ∷ 2 ∷ 4 ∷ 1 ∷ 2 ∷ 1 ∷ 0 ∷ []) 1 ≡ found (leaf_of None (Some (pos 4)) (over 2 1 ∷ []) []) 7
