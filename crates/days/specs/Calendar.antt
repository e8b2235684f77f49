-- Days from 1 January 2000 to 31 December 2199, Gregorian, by their number from 0.
use Rattle.std.specs.Prelude.{◌≡◌, ℕ, zero, suc, ◌+◌, ◌-◌, ◌%◌, ◌≤◌, Bool, true, false, cond, ◌&&◌, List, [], ◌∷◌, Some, None, Option, ◌==◌, nat_le, nat_lt, slice_index}

-- every fourth year, of the hundreds only every fourth
abbrev pub leap : ℕ → Bool
leap y = cond (y % 4 == 0) (cond (y % 100 == 0) (y % 400 == 0) true) false

-- the lengths of the months, in a leap year or a common one
abbrev pub lengths : Bool → List ℕ
lengths l = 31 ∷ cond l 29 28 ∷ 31 ∷ 30 ∷ 31 ∷ 30 ∷ 31 ∷ 31 ∷ 30 ∷ 31 ∷ 30 ∷ 31 ∷ []

abbrev pub month_days : Bool → ℕ → ℕ
month_days l m = slice_index (lengths l) (m - 1)

-- a, and the sums of a and each more of a list
abbrev pub sums : ℕ → List ℕ → List ℕ
sums a [] = a ∷ []
sums a (x ∷ xs) = a ∷ sums (a + x) xs

-- the days of the months before month m; 13 is the next January
unfoldable pub before : Bool → ℕ → ℕ
before l m = slice_index (sums 0 (lengths l)) (m - 1)

-- days from 1 January 2000 to 1 January of 2000 + k
unfoldable pub year_start : ℕ → ℕ
year_start zero = 0
year_start (suc k) = year_start k + before (leap (2000 + k)) 13

-- whether there is such a day
abbrev pub is_date : ℕ → ℕ → ℕ → Bool
is_date y m d = nat_le 2000 y && (nat_le y 2199 && (nat_le 1 m && (nat_le m 12 && (nat_le 1 d && nat_le d (month_days (leap y) m)))))

-- the same, said by its parts, the month's length by where the next one starts
pub record Valid (y m d : ℕ) : Type 0 where
  pub from : 2000 ≤ y
  pub to : y ≤ 2199
  pub month : 1 ≤ m
  pub year : m ≤ 12
  pub day : 1 ≤ d
  pub last : d ≤ before (leap y) (m + 1) - before (leap y) m

-- the number of a day that there is, with 1 January 2000 as 0
abbrev pub day_number : ℕ → ℕ → ℕ → ℕ
day_number y m d = year_start (y - 2000) + before (leap y) m + (d - 1)

unfoldable pub day_of : ℕ → ℕ → ℕ → Option ℕ
day_of y m d = cond (is_date y m d) (Some (day_number y m d)) None

abbrev pub is_day_number : ℕ → Bool
is_day_number n = nat_lt n 73049

-- Monday is 0
abbrev pub weekday : ℕ → ℕ
weekday n = (n + 5) % 7

-- what numbers and weekdays of days are
pub record CalendarLaws : Type 0 where
  -- a number is of one date, and it is a day's
  pub one_date : (y m d z n e k : ℕ) → day_of y m d ≡ Some k → day_of z n e ≡ Some k → (y ≡ z) × (m ≡ n) × (d ≡ e)
  pub is_day : (y m d k : ℕ) → day_of y m d ≡ Some k → is_day_number k ≡ true
  -- 1 January 2000 was a Saturday, and weekdays go on by one
  pub saturday : weekday 0 ≡ 5
  pub goes_on : (k : ℕ) → weekday (k + 1) ≡ (weekday k + 1) % 7
  -- the hundreds are leap years only every four
  pub in_2000 : day_of 2000 2 29 ≡ Some 59
  pub in_2100 : day_of 2100 2 29 ≡ None

-- shut, so that callers go by the equation alone
unfoldable pub CalendarStands : Type 0
CalendarStands = CalendarLaws
