-- Which fields of a day leaf give which refusal: each on its condition and on no other.
use Rattle.std.specs.Prelude.{ℕ, ◌↔◌, List, false, is_some, ⊤}
use Rattle.leaf.specs.Numbers.{are_flags}
use Rattle.leaf.specs.Plans.{Unfit, UnfitFlags, UnfitIn}
use Rattle.days.specs.Calendar.{day_of}
use Rattle.days.specs.Layout.{day, day_layout, day_table, weekdays}
use Rattle.days.specs.Weekdays.{is_set}

module _ (s : List ℕ) where
  -- of the leaf that stands at a byte, the first field that is not in order is refused so, naming p
  abbrev pub IsRefused : ℕ → ℕ → ℕ → Type 0
  IsRefused at m p = Unfit day_table s day_layout.plan at m p

  pub record DayRefusals : Type 0 where
    -- 4: the leaf's first byte has a bit but 0 and 1
    pub four : (at p : ℕ) → IsRefused at 4 p ↔ UnfitFlags day_table s day_layout.plan at (are_flags false) p
    -- 5 and 6 come of no field
    pub five : (at p : ℕ) → IsRefused at 5 p → ⊥
    pub six : (at p : ℕ) → IsRefused at 6 p → ⊥
    -- 7: a year, a month and a day are no day; the year's first byte is named
    pub seven : (at p : ℕ) → IsRefused at 7 p ↔ UnfitIn day_table s day_layout.plan at (λ (d : ℕ × ℕ × ℕ). day d.0 d.1 d.2) (λ d n. is_some (day_of d.1 d.2 n)) p
    -- 9: the weekday set is 0 or above 127; its first byte is named
    pub nine : (at p : ℕ) → IsRefused at 9 p ↔ UnfitIn day_table s day_layout.plan at (λ (_ : ⊤). weekdays) (λ _. is_set) p
