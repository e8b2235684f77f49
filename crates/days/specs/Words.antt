-- What a day leaf as written means, in the words of its dates and weekdays.
use Rattle.std.specs.Prelude.{◌≡◌, ℕ, ◌≤◌, true, Some, Option}
use Rattle.leaf.specs.Numbers.{has_bit}
use Rattle.leaf.specs.Windows.{written}
use Rattle.days.specs.declared.calendar.Date.{Date}
use Rattle.days.specs.Calendar.{is_day_number, weekday}
use Rattle.days.specs.Making.{numbered}

-- d is a day, no earlier than the minimum and no later than the maximum where they are there, and its weekday is in the set
pub record Meant (low high : Option ℕ) (set d : ℕ) : Type 0 where
  pub day : is_day_number d ≡ true
  pub minimum : (x : ℕ) → low ≡ Some x → x ≤ d
  pub maximum : (y : ℕ) → high ≡ Some y → d ≤ y
  pub weekday : has_bit set (weekday d) ≡ true

-- the number of a bound's date as written
abbrev pub value_of : Option Date → Option ℕ
value_of bound = written numbered bound
