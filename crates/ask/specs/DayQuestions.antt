-- What a question about a day leaf comes to.
use Rattle.std.specs.Prelude.{ℕ, List, Some, None, Ok, Err, Option, Result}
use Rattle.faults.specs.Faults.{Refused}
use Rattle.leaf.specs.Kind.{admits}
use Rattle.days.specs.declared.calendar.Date.{Date}
use Rattle.days.specs.declared.day_leaf.DayLeaf.{DayLeaf}
use Rattle.days.specs.Calendar.{day_of}
use Rattle.days.specs.Days.{days}
use Rattle.days.specs.Making.{made_of}
use Rattle.questions.specs.Outcomes.{Outcome, answered, or_else, refused}
use Rattle.ask.specs.declared.wrong.Wrong.{Wrong}
use Rattle.ask.specs.declared.wrong.Wrong.TheVariants.{MinimumDate, MaximumDate, Weekdays, Date as NoDate}
use Rattle.ask.specs.DayTexts.{date_bound_in, date_in, weekdays_in}

-- a date asked about that is none
abbrev pub day_asked : DayLeaf → Option ℕ → Outcome Wrong
day_asked a None = refused 7
day_asked a (Some n) = answered (admits days a n)

-- the leaf is made first, then the date is looked up
abbrev pub leaf_asked : Result DayLeaf Refused → Option ℕ → Outcome Wrong
leaf_asked (Ok a) o = day_asked a o
leaf_asked (Err f) o = refused f.number

abbrev pub outcome_of : Option Date → Option Date → ℕ → Date → Outcome Wrong
outcome_of low high set d = leaf_asked (made_of low high set) (day_of d.year d.month d.day)

-- the text of all fields is looked at first
abbrev pub day_outcome : List ℕ → List ℕ → List ℕ → List ℕ → Outcome Wrong
day_outcome minimum maximum weekdays value =
    or_else MinimumDate (date_bound_in minimum) (λ low. or_else MaximumDate (date_bound_in maximum) (λ high.
    or_else Weekdays (weekdays_in weekdays) (λ set. or_else NoDate (date_in value) (λ d. outcome_of low high set d))))
