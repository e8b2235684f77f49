-- The text of a line: minimum, maximum and weekdays, one space between; `*` is an absent bound, a weekday is a digit from 1 for Monday on.
use Rattle.std.specs.Prelude.{◌≡◌, ℕ, zero, suc, ◌+◌, ◌-◌, ◌/◌, ◌%◌, true, cond, List, [], ◌∷◌, ◌++◌, Some, None, Option, nat_le}
use Rattle.leaf.specs.Numbers.{has_bit}
use Rattle.days.specs.declared.calendar.Date.{Date}
use Rattle.days.specs.declared.day_leaf.DayLeaf.{DayLeaf}
use Rattle.days.specs.Calendar.{before, day_of, is_day_number, leap, year_start}

-- how many of f 1, .., f k are at most n
unfoldable pub reached : (ℕ → ℕ) → ℕ → ℕ → ℕ
reached f zero n = 0
reached f (suc k) n = reached f k n + cond (nat_le (f (suc k)) n) 1 0

-- the date so many days after 1 January of a year: of the months behind January, those that have begun
abbrev pub date_in : ℕ → ℕ → Date
date_in y left =
    let m = 1 + reached (λ k. before (leap y) (k + 1)) 11 left in
    record { year = y; month = m; day = left - before (leap y) m + 1 }

-- the year of a day: of the years behind 2000, those that have begun
abbrev pub year_of : ℕ → ℕ
year_of n = 2000 + reached year_start 199 n

unfoldable pub date_of : ℕ → Date
date_of n = date_in (year_of n) (n - year_start (year_of n - 2000))

-- the last two digits
abbrev pub two_digits : ℕ → List ℕ
two_digits n = (48 + n / 10 % 10) ∷ (48 + n % 10) ∷ []

-- 2024-05-03
abbrev pub date_text : Date → List ℕ
date_text d = two_digits (d.year / 100) ++ (two_digits d.year ++ (45 ∷ (two_digits d.month ++ (45 ∷ two_digits d.day))))

-- a number that is no day's, which no lawful leaf has, counts as absent
abbrev pub bound_text : Option ℕ → List ℕ
bound_text None = 42 ∷ []
bound_text (Some n) = cond (is_day_number n) (date_text (date_of n)) (42 ∷ [])

-- what is written of days
pub record WrittenDates : Type 0 where
  -- each day's number is that of a date,
  pub each_day : (n : ℕ) → is_day_number n ≡ true → (d : Date) × (day_of d.year d.month d.day ≡ Some n)
  -- and it is that date which is written of it
  pub date : (d : Date) (n : ℕ) → day_of d.year d.month d.day ≡ Some n → bound_text (Some n) ≡ date_text d

-- shut, so that callers go by the equation alone
unfoldable pub DatesStand : Type 0
DatesStand = WrittenDates

-- the digit of weekday k, Monday being 0, if it is in the set
abbrev pub weekday_text : ℕ → ℕ → List ℕ
weekday_text set k = cond (has_bit set k) ((49 + k) ∷ []) []

-- those of the first k weekdays
abbrev pub weekdays_text : ℕ → ℕ → List ℕ
weekdays_text set zero = []
weekdays_text set (suc k) = weekdays_text set k ++ weekday_text set k

abbrev pub text_of : Option ℕ → Option ℕ → ℕ → List ℕ
text_of low high set = bound_text low ++ (32 ∷ (bound_text high ++ (32 ∷ (weekdays_text set 7 ++ 10 ∷ []))))

unfoldable pub line_text : DayLeaf → List ℕ
line_text a = text_of a.bounds.minimum a.bounds.maximum a.weekdays
