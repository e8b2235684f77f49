-- Each day's number is that of a date, and the text of the number is that of the date.
use Rattle.std.proofs.Common.{◌≡◌, ℕ, zero, suc, ◌+◌, ◌-◌, ◌<◌, ◌≤◌, true, Some, refl, ap, ◌∙◌, ⊎_elim, arith}
use Rattle.std.proofs.lemmas.Bool.{cases_lt, ltb-true}
use Rattle.days.specs.declared.calendar.Date.{Date}
use Rattle.days.specs.Calendar.{before, day_of, is_day_number, leap, year_start}
use Rattle.days.specs.Dates.{dated, in_month}
use Rattle.days.specs.Tables.{all_years, first_month, year_none, year_step}
use Rattle.days.specs.Text.{DatesStand}
use Rattle.days.proofs.Texts.{date_text_lem}

-- of what begins with 0 and passes n, the last that n reaches
record Reaches (f : ℕ → ℕ) (n top : ℕ) : Type 0 where
  at : ℕ
  below : at < top
  reached : f at ≤ n
  next : n < f (at + 1)

reaches : (f : ℕ → ℕ) (n top : ℕ) → f 0 ≡ 0 → n < f top → Reaches f n top
reaches f n zero e h = absurd (omega (arith, e))
reaches f n (suc k) e h = ⊎_elim (λ l. longer (reaches f n k e l)) here (cases_lt n (f k))
  where
    longer : Reaches f n k → Reaches f n (suc k)
    longer r = record { at = r.at; below = let b = r.below in omega arith; reached = r.reached; next = r.next }

    here : f k ≤ n → Reaches f n (suc k)
    here l = let s : k + 1 ≡ suc k = omega arith in record { at = k; below = omega arith; reached = l; next = omega (arith, ap f s) }

each_day : (n : ℕ) → is_day_number n ≡ true → (d : Date) × (day_of d.year d.month d.day ≡ Some n)
each_day n h =
    let small : n < 73049 = ltb-true n 73049 h in
    let year = reaches year_start n 200 year_none (omega (arith, all_years)) in
    let y : ℕ = 2000 + year.at in
    let same : y - 2000 ≡ year.at = omega arith in
    let started = ap year_start same in
    let left : ℕ = n - year_start year.at in
    let step = year_step y (omega arith) in
    let on : y + 1 - 2000 ≡ year.at + 1 = omega arith in
    let past = ap year_start on in
    let within : left < before (leap y) 13 = omega (arith, year.reached, year.next) in
    let month = reaches (λ k. before (leap y) (k + 1)) left 12 (first_month (leap y)) within in
    let m : ℕ = month.at + 1 in
    let d : ℕ = left - before (leap y) m + 1 in
    let here = in_month y left m y m d refl refl refl (omega arith) (omega (arith, year.below)) (omega arith) (omega (arith, month.below)) month.reached month.next in
    (record { year = y; month = m; day = d }, dated y m d here.1 ∙ ap (λ (i : ℕ). Some i) (omega (arith, here.2, year.reached)))

pub dates_stand : DatesStand
unfolding DatesStand
dates_stand = record { each_day = each_day; date = date_text_lem }
