-- Leaves worked by hand.
use Rattle.std.specs.Prelude.{◌≡◌, ℕ, [], ◌∷◌, Some, None, Ok, Err}
use Rattle.faults.specs.Faults.{refused, at_byte, unplaced}
use Rattle.leaf.specs.Layouts.{bytes_of}
use Rattle.days.specs.declared.calendar.Date.{Date}
use Rattle.days.specs.Leaves.{leaf_of}
use Rattle.days.specs.Making.{made_of}
use Rattle.leaf.specs.Kind.{leaf_at}
use Rattle.days.specs.Days.{days}
use Rattle.days.specs.Layout.{day_layout}

abbrev pub date : ℕ → ℕ → ℕ → Date
date y m d = record { year = y; month = m; day = d }

pub record WorkedDays : Type 0 where
  -- 29 February 2000 is a day, 29 February 2100 is none
  pub of_2000 : made_of (Some (date 2000 2 29)) None 127 ≡ Ok (leaf_of (Some 59) None 127)
  pub of_2100 : made_of (Some (date 2100 2 29)) None 127 ≡ Err (unplaced 7)
  -- 6 May to 3 May 2024 on no weekday, behind the kind byte: 03 e8 0f 05 06 e8 0f 05 03 00; the maker sees the window first, a sheet the weekdays
  pub bytes : bytes_of day_layout (record { low = Some (date 2024 5 6); high = Some (date 2024 5 3); rest = 0 }) ≡ 3 ∷ 232 ∷ 15 ∷ 5 ∷ 6 ∷ 232 ∷ 15 ∷ 5 ∷ 3 ∷ 0 ∷ []
  pub window_first : made_of (Some (date 2024 5 6)) (Some (date 2024 5 3)) 0 ≡ Err (unplaced 8)
  pub weekdays_first : leaf_at days (68 ∷ 3 ∷ 232 ∷ 15 ∷ 5 ∷ 6 ∷ 232 ∷ 15 ∷ 5 ∷ 3 ∷ 0 ∷ []) 1 ≡ refused (at_byte 9 10)
  -- with a weekday the window is seen last, and the flags are named
  pub window_last : leaf_at days (68 ∷ 3 ∷ 232 ∷ 15 ∷ 5 ∷ 6 ∷ 232 ∷ 15 ∷ 5 ∷ 3 ∷ 1 ∷ []) 1 ≡ refused (at_byte 8 1)
  -- a day is judged after its three numbers, and its year is named
  pub no_such_day : leaf_at days (68 ∷ 1 ∷ 180 ∷ 16 ∷ 2 ∷ 29 ∷ 127 ∷ []) 1 ≡ refused (at_byte 7 2)
