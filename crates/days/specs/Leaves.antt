-- Day leaves: a window with a set of weekdays.
use Rattle.std.specs.Prelude.{ℕ, Bool, true, Some, None, Option, nat_le}
use Rattle.leaf.specs.Kind.{ext_le, from, upto}
use Rattle.days.specs.declared.day_leaf.DayLeaf.{DayLeaf}
use Rattle.days.specs.Calendar.{is_day_number}

abbrev pub is_bound : Option ℕ → Bool
is_bound None = true
is_bound (Some n) = is_day_number n

-- minimum at most maximum, where both are there
abbrev pub is_window : Option ℕ → Option ℕ → Bool
is_window low high = ext_le nat_le (from low) (upto high)

abbrev pub leaf_of : Option ℕ → Option ℕ → ℕ → DayLeaf
leaf_of low high set = record { bounds = record { minimum = low; maximum = high }; weekdays = set }
