-- Lists of leaves and of divisors worked by hand, and what the definitions make of them.
use Rattle.std.specs.Prelude.{◌≡◌, ℕ, List, [], ◌∷◌, ◌++◌, ℤ, pos, Some, None, Option}
use Rattle.divisors.specs.declared.fraction.Fraction.{Fraction}
use Rattle.divisors.specs.Laws.{over}
use Rattle.divisors.specs.Written.{required_of}
use Rattle.list.specs.Runs.{Call, lines}
use Rattle.list.specs.Runs.Call.{insert, count}
use Rattle.amounts.specs.declared.amount_leaf.AmountLeaf.{AmountLeaf}
use Rattle.amounts.specs.Amounts.{amounts}
use Rattle.amounts.specs.Leaves.{leaf_of}
use Rattle.amounts.specs.Worked.{minus}
use Rattle.days.specs.declared.day_leaf.DayLeaf.{DayLeaf}
use Rattle.days.specs.Calendar.{day_of}
use Rattle.days.specs.Days.{days}
use Rattle.days.specs.Leaves.{leaf_of as day_leaf_of}

-- an amount leaf with one required divisor
abbrev pub within : Option ℤ → Option ℤ → Fraction → AmountLeaf
within low high f = leaf_of low high (f ∷ []) []

abbrev pub between : ℕ → ℕ → Fraction → AmountLeaf
between low high f = within (Some (pos low)) (Some (pos high)) f

-- the lines of two leaves
abbrev pub both : AmountLeaf → AmountLeaf → List AmountLeaf
both a b = lines amounts 8 (insert a ∷ insert b ∷ [])

-- the lines of leaves up to 3 May 2024, a Friday, and from 6 May 2024, a Monday, with these weekdays
abbrev pub over_weekend : ℕ → List DayLeaf
over_weekend set = lines days 8 (insert (day_leaf_of None (day_of 2024 5 3) set) ∷ insert (day_leaf_of (day_of 2024 5 6) None set) ∷ [])

-- [0, 8] by 4, and then by 2
abbrev pub by_four_and_two : List (Call ℤ AmountLeaf)
by_four_and_two = insert (between 0 8 (over 4 1)) ∷ insert (between 0 8 (over 2 1)) ∷ []

pub record ListsWorkedByHand : Type 0 where
  -- multiples of 2 up to 4, and from 6: one line, all multiples of 2
  pub adjoining : both (within None (Some (pos 4)) (over 2 1)) (within (Some (pos 6)) None (over 2 1)) ≡ within None None (over 2 1) ∷ []
  -- multiples of 2 up to 4, and from 8: two lines, since 6 lies between
  pub apart : both (within None (Some (pos 4)) (over 2 1)) (within (Some (pos 8)) None (over 2 1)) ≡ within None (Some (pos 4)) (over 2 1) ∷ within (Some (pos 8)) None (over 2 1) ∷ []
  -- multiples of 2 from 0 to 4, and from 8 to 9: two lines
  pub one_between : both (between 0 4 (over 2 1)) (between 8 9 (over 2 1)) ≡ between 0 4 (over 2 1) ∷ between 8 9 (over 2 1) ∷ []
  -- all multiples of 2, and all of 4: one line, those of 2
  pub covered : both (within None None (over 2 1)) (within None None (over 4 1)) ≡ within None None (over 2 1) ∷ []
  -- required divisors 25/2 and 10: they fold to 50
  pub joined : required_of (over 25 2 ∷ over 10 1 ∷ []) ≡ over 50 1 ∷ []
  -- multiples of 3/2 from 0 to 3, and from 6 to 9: two lines, since the grid of a divisor that is not whole is every amount
  pub not_whole : both (between 0 3 (over 3 2)) (between 6 9 (over 3 2)) ≡ between 0 3 (over 3 2) ∷ between 6 9 (over 3 2) ∷ []
  -- required divisors 4 and 9223372036854775806, whose join is too large: they fold to 4 and 4611686018427387903
  pub stripped : required_of (over 4 1 ∷ over 9223372036854775806 1 ∷ []) ≡ over 4 1 ∷ over 4611686018427387903 1 ∷ []
  -- multiples of 4 up to -8, and from -4: one line, all multiples of 4
  pub below_zero : both (within None (Some (minus 8)) (over 4 1)) (within (Some (minus 4)) None (over 4 1)) ≡ within None None (over 4 1) ∷ []
  -- multiples of 4 up to -9, and from -5: two lines, since -8 lies between
  pub below_zero_apart : both (within None (Some (minus 9)) (over 4 1)) (within (Some (minus 5)) None (over 4 1)) ≡ within None (Some (minus 9)) (over 4 1) ∷ within (Some (minus 5)) None (over 4 1) ∷ []
  -- multiples of 4611686018427387904 from 0 to that, and from two more to 9223372036854775807: one line, since none comes after it
  pub near_the_top : both (between 0 4611686018427387904 (over 4611686018427387904 1)) (between 4611686018427387906 9223372036854775807 (over 4611686018427387904 1))
      ≡ between 0 9223372036854775807 (over 4611686018427387904 1) ∷ []
  -- multiples of 4 from 0 to 8 and of 2 from 0 to 8, a reading, then those of 4 from 12 to 20: two lines, [0, 8] by 2 and [12, 20] by 4
  pub read_between : lines amounts 8 (by_four_and_two ++ count ∷ insert (between 12 20 (over 4 1)) ∷ []) ≡ between 0 8 (over 2 1) ∷ between 12 20 (over 4 1) ∷ []
  -- the same without that reading: two lines, [0, 8] by 2 and [0, 20] by 4
  pub read_last : lines amounts 8 (by_four_and_two ++ insert (between 12 20 (over 4 1)) ∷ []) ≡ between 0 8 (over 2 1) ∷ between 0 20 (over 4 1) ∷ []
  -- Monday to Friday up to 3 May 2024, and from 6 May 2024: one line, Monday to Friday of every week
  pub weekend : over_weekend 31 ≡ day_leaf_of None None 31 ∷ []
  -- the same with Saturday in both sets: two lines, since 4 May 2024 is a Saturday
  pub saturday : over_weekend 63 ≡ day_leaf_of None (day_of 2024 5 3) 63 ∷ day_leaf_of (day_of 2024 5 6) None 63 ∷ []
