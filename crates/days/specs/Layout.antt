-- How day leaves stand on a sheet: flags, year, month and day of each bound present, the weekday set.
use Rattle.std.specs.Prelude.{ℕ, Bool, true, false, List, [], ◌∷◌, Option, is_some}
use Rattle.leaf.specs.Fields.{Shape, byte, number}
use Rattle.leaf.specs.Numbers.{are_flags}
use Rattle.leaf.specs.Plans.{Table, Plan, done, ask, field}
use Rattle.leaf.specs.Headed.{Headed, MadeLeaf, WrittenLeaf, headed_layout, unsigned_flags}
use Rattle.leaf.specs.Layouts.{Layout}
use Rattle.days.specs.declared.calendar.Date.{Date}
use Rattle.days.specs.declared.day_leaf.DayLeaf.{DayLeaf}
use Rattle.days.specs.Calendar.{day_of, is_date}
use Rattle.days.specs.Making.{numbered}
use Rattle.days.specs.Leaves.{is_window}
use Rattle.days.specs.Weekdays.{is_set}

-- the fields: the flags, a year, a month, a day of the month and of the year that stands at a byte, the weekday set
pub data Role : Type 0 where
  flags : Role
  year : Role
  month : Role
  day : ℕ → ℕ → ℕ → Role
  weekdays : Role

abbrev pub shape_of : Role → Shape
shape_of flags = byte
shape_of year = number
shape_of month = number
shape_of (day first y m) = number
shape_of weekdays = number

-- a date has no sign; a day is judged after its three numbers
abbrev pub fits_in : Role → ℕ → Bool
fits_in flags f = are_flags false f
fits_in year y = true
fits_in month m = true
fits_in (day first y m) d = is_some (day_of y m d)
fits_in weekdays n = is_set n

abbrev pub refusal_in : Role → ℕ
refusal_in flags = 4
refusal_in year = 7
refusal_in month = 7
refusal_in (day first y m) = 7
refusal_in weekdays = 9

-- no such day names its year's first byte, all others their own
abbrev pub named_by : Role → ℕ → ℕ
named_by flags at = at
named_by year at = at
named_by month at = at
named_by (day first y m) at = first
named_by weekdays at = at

abbrev pub day_table : Table Role
day_table = record { shape = shape_of; fits = fits_in; refusal = refusal_in; named = named_by }

-- a date: year, month and day
abbrev pub date : Bool → Plan Role (Option ℕ)
date negative = ask year (λ at y. ask month (λ _ m. ask (day at y m) (λ _ d. done (day_of y m d))))

-- a date as written
abbrev pub date_numbers : Date → List ℕ
date_numbers d = d.year ∷ d.month ∷ d.day ∷ []

abbrev pub is_day : Date → Bool
is_day d = is_date d.year d.month d.day

-- behind the flags come the dates that they name, then the weekday set
abbrev pub day_fields : Headed Role ℕ Date ℕ ℕ
day_fields = record {
  table = day_table;
  flags = flags;
  bound = date;
  rest = field weekdays;
  bound_numbers = date_numbers;
  is_bound = is_day;
  value = numbered;
  flags_of = unsigned_flags;
  rest_numbers = λ set. set ∷ [];
  is_rest = is_set;
  rest_value = λ set. set;
}

-- a leaf as written, and what its fields make
abbrev pub Written : Type 0
Written = WrittenLeaf Date ℕ

abbrev pub Made : Type 0
Made = MadeLeaf ℕ ℕ

abbrev pub day_layout : Layout Role Written Made DayLeaf
day_layout = headed_layout day_fields is_window (λ bounds set. record { bounds = bounds; weekdays = set })
