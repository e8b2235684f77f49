-- The maker of day leaves, and its refusals in their order: no such day (7), the window (8), the weekday set (9).
use Rattle.std.specs.Prelude.{ℕ, cond, List, [], ◌∷◌, ◌++◌, Ok, Err, Option, Result, nat_le}
use Rattle.faults.specs.Faults.{Refused, then, unplaced}
use Rattle.leaf.specs.Tests.{Test, Decided, window_tests}
use Rattle.leaf.specs.Windows.{window_of, written}
use Rattle.days.specs.declared.calendar.Date.{Date}
use Rattle.days.specs.declared.day_leaf.DayLeaf.{DayLeaf}
use Rattle.days.specs.Calendar.{day_of}
use Rattle.days.specs.Leaves.{leaf_of}
use Rattle.days.specs.Weekdays.{is_set}

-- the number of a date's day
abbrev pub numbered : Date → Option ℕ
numbered d = day_of d.year d.month d.day

-- bounds that are days, minimum at most maximum, then the weekdays
abbrev pub made_of : Option Date → Option Date → ℕ → Result DayLeaf Refused
made_of low high set = then (window_of numbered nat_le low high) (λ w. cond (is_set set) (Ok (leaf_of w.minimum w.maximum set)) (Err (unplaced 9)))

-- what is tested of dates and weekdays as written: the window, then the weekday set
abbrev pub day_tests : Option Date → Option Date → ℕ → List Test
day_tests low high set = window_tests numbered nat_le low high ++ record { holds = is_set set; number = 9 } ∷ []

-- the answers of the maker, each on its condition: the first test that fails gives its number, and the leaf is made where none does
unfoldable pub MakerJudged : Type 0
MakerJudged = (low high : Option Date) (set : ℕ) → Decided (day_tests low high set) (leaf_of (written numbered low) (written numbered high) set) (made_of low high set)
