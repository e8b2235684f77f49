-- Sets of weekdays, bit 0 Monday, and the days whose weekday is in one.
use Rattle.std.specs.Prelude.{◌≡◌, ℕ, zero, suc, ◌+◌, Bool, true, cond, ◌&&◌, Some, None, Option, ◌==◌, bit_and, nat_le}
use Rattle.leaf.specs.Numbers.{has_bit}
use Rattle.days.specs.Calendar.{is_day_number, weekday}

-- at least one weekday, and none past Sunday
abbrev pub is_set : ℕ → Bool
is_set set = nat_le 1 set && nat_le set 127

-- a day whose weekday is in the set
unfoldable pub is_on_grid : ℕ → ℕ → Bool
is_on_grid set n = is_day_number n && has_bit set (weekday n)

-- the first of the k days after n that is on the grid
abbrev pub first_after : ℕ → ℕ → ℕ → Option ℕ
first_after set n zero = None
first_after set n (suc k) = cond (is_on_grid set (n + 1)) (Some (n + 1)) (first_after set (n + 1) k)

-- weekdays come again after seven days
unfoldable pub next_day : ℕ → ℕ → Option ℕ
next_day set n = first_after set n 7

-- whether b's weekdays are all in a
abbrev pub holds : ℕ → ℕ → Bool
holds a b = bit_and b a == b

-- in words: each weekday of b is one of a
abbrev pub PartOf : ℕ → ℕ → Type 0
PartOf b a = (k : ℕ) → has_bit b k ≡ true → has_bit a k ≡ true
