-- Dates and weekdays as text.
use Rattle.std.specs.Prelude.{ℕ, ◌+◌, ◌-◌, ◌^◌, Bool, cond, ◌&&◌, List, [], ◌∷◌, length, take, drop, Some, None, Option, ◌==◌, nat_le, nat_lt, slice_index}
use Rattle.std.specs.Option.{option_map}
use Rattle.notation.specs.Text.{is_dash, number_of, stepped}
use Rattle.days.specs.declared.calendar.Date.{Date}
use Rattle.questions.specs.Outcomes.{and_then, is_star}

-- ten bytes with a dash behind the fourth and the seventh
abbrev pub is_date_shape : List ℕ → Bool
is_date_shape bs = length bs == 10 && (slice_index bs 4 == 45 && slice_index bs 7 == 45)

-- the date that a text writes: four, two and two digits, whether there is such a day or not
abbrev pub date_in : List ℕ → Option Date
date_in bs =
    cond (is_date_shape bs)
    (and_then (number_of (take 4 bs)) (λ y. and_then (number_of (take 2 (drop 5 bs))) (λ m. option_map (λ d. record { year = y; month = m; day = d }) (number_of (drop 8 bs)))))
    None

-- the bound that a text writes, absent where it is a star
abbrev pub date_bound_in : List ℕ → Option (Option Date)
date_bound_in bs = cond (is_star bs) (Some None) (option_map Some (date_in bs))

-- a weekday more, by its digit from 1 for Monday to 7 for Sunday: it comes behind all those of the set
abbrev pub with_weekday : ℕ → ℕ → Option ℕ
with_weekday set b = cond (nat_le 49 b && nat_le b 55) (cond (nat_lt set (2 ^ (b - 49))) (Some (set + 2 ^ (b - 49))) None) None

-- the weekdays of a row of digits behind those of a set
abbrev pub weekdays_after : ℕ → List ℕ → Option ℕ
weekdays_after set bs = stepped with_weekday set bs

-- ascending digits; a dash alone is none
abbrev pub weekdays_in : List ℕ → Option ℕ
weekdays_in [] = None
weekdays_in (b ∷ bs) = cond (is_dash (b ∷ bs)) (Some 0) (weekdays_after 0 (b ∷ bs))
