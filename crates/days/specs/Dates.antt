-- Dates and their numbers.
use Rattle.std.specs.Prelude.{◌≡◌, ℕ, ◌+◌, ◌-◌, ◌<◌, ◌≤◌, true, false, ◌⊎◌, Some, None, nat_le, nat_lt, refl}
use Rattle.std.proofs.Common.{sym, ap, subst, ◌∙◌, inl, inr, arith}
use Rattle.std.proofs.lemmas.Bool.{and_from, and_parts, cases_Bool, cond_both, cond-true, le-leb, leb-true, lt-ltb, ltb-false, ltb-true}
use Rattle.days.specs.Calendar.{CalendarLaws, CalendarStands, Valid, before, day_number, day_of, is_date, is_day_number, leap, month_days, year_start}
use Rattle.days.specs.Tables.{all_years, month_on, months, months_on, year_step, years}

pub valid : (y m d : ℕ) → is_date y m d ≡ true → Valid y m d
valid y m d h =
    let a = and_parts (nat_le 2000 y) _ h in
    let b = and_parts (nat_le y 2199) _ a.1 in
    let c = and_parts (nat_le 1 m) _ b.1 in
    let e = and_parts (nat_le m 12) _ c.1 in
    let f = and_parts (nat_le 1 d) _ e.1 in
    let o = month_on (leap y) m (leb-true _ _ c.0) (leb-true _ _ e.0) in
    let g : d ≤ month_days (leap y) m = leb-true _ _ f.1 in
    record { from = leb-true _ _ a.0; to = leb-true _ _ b.0; month = leb-true _ _ c.0; year = leb-true _ _ e.0; day = leb-true _ _ f.0; last = omega arith }

pub dated : (y m d : ℕ) → Valid y m d → day_of y m d ≡ Some (day_number y m d)
unfolding day_of
dated y m d v =
    let o = month_on (leap y) m v.month v.year in
    let g : d ≤ month_days (leap y) m = omega (arith, v.last) in
    cond-true (is_date y m d) (Some (day_number y m d)) None
    (and_from _ _ (le-leb _ _ v.from) (and_from _ _ (le-leb _ _ v.to) (and_from _ _ (le-leb _ _ v.month) (and_from _ _ (le-leb _ _ v.year) (and_from _ _ (le-leb _ _ v.day) (le-leb _ _ g))))))

pub undated : (y m d : ℕ) → (Valid y m d → ⊥) → day_of y m d ≡ None
unfolding day_of
undated y m d f = cond_both (is_date y m d) (Some (day_number y m d)) None (λ r. r ≡ None) (λ t. absurd (f (valid y m d t))) (λ _. refl)

-- the date so many days after 1 January
pub in_month :
    (y left m z n e : ℕ) → z ≡ y → n ≡ m → e ≡ left - before (leap y) m + 1 → 2000 ≤ y → y ≤ 2199 → 1 ≤ m → m ≤ 12 → before (leap y) m ≤ left → left < before (leap y) (m + 1) →
    (z ≡ y) × Valid y n e × (before (leap y) n + (e - 1) ≡ left)
in_month y left m z n e a b c f g h i j k =
    let s = ap (before (leap y)) b in
    let t = ap (λ (u : ℕ). before (leap y) (u + 1)) b in
    (a, record { from = f; to = g; month = omega arith; year = omega arith; day = omega arith; last = omega arith }, omega arith)

-- what has a number is a date
pub known : (y m d k : ℕ) → day_of y m d ≡ Some k → Valid y m d × (k ≡ day_number y m d)
unfolding day_of
known y m d k = cond_both (is_date y m d) (Some (day_number y m d)) None (λ r. r ≡ Some k → Valid y m d × (k ≡ day_number y m d))
    (λ t e. (valid y m d t, cc)) (λ f e. let z : ◌≡◌ {A = ℕ} 0 1 = cc in absurd (omega arith))

-- a day lies before the next year starts
pub in_year : (y m d : ℕ) → Valid y m d → day_number y m d < year_start (y + 1 - 2000)
in_year y m d v =
    let a = months (leap y) (m + 1) in
    let s = year_step y v.from in
    omega (arith, v.last, v.day)

pub number_small : (y m d : ℕ) → Valid y m d → day_number y m d < 73049
number_small y m d v =
    let g = years (y + 1 - 2000) (2200 - (y + 1)) in
    let k : y + 1 - 2000 + (2200 - (y + 1)) ≡ 200 = omega (arith, v.to, v.from) in
    let t = ap year_start k ∙ all_years in
    omega (arith, in_year y m d v)

-- a date's number is a day's number
pub day_small : (y m d n : ℕ) → day_of y m d ≡ Some n → is_day_number n ≡ true
day_small y m d n h = let v = known y m d n h in lt-ltb n 73049 (omega (arith, v.1, number_small y m d v.0))

-- days of an earlier year come before
earlier_year : (y m d z n e : ℕ) → Valid y m d → Valid z n e → y < z → day_number y m d < day_number z n e
earlier_year y m d z n e v w h =
    let g = years (y + 1 - 2000) (z - (y + 1)) in
    let k : y + 1 - 2000 + (z - (y + 1)) ≡ z - 2000 = omega (arith, v.from) in
    let t = ap year_start k in
    omega (arith, in_year y m d v)

one_year : (y m d z n e : ℕ) → Valid y m d → Valid z n e → day_number y m d ≡ day_number z n e → y ≡ z
one_year y m d z n e v w h = go (cases_Bool (nat_lt y z)) (cases_Bool (nat_lt z y))
  where
    go : (nat_lt y z ≡ true) ⊎ (nat_lt y z ≡ false) → (nat_lt z y ≡ true) ⊎ (nat_lt z y ≡ false) → y ≡ z
    go (inl t) q = absurd (omega (arith, earlier_year y m d z n e v w (ltb-true y z t)))
    go (inr f) (inl t) = absurd (omega (arith, earlier_year z n e y m d w v (ltb-true z y t)))
    go (inr f) (inr g) = omega (arith, ltb-false y z f, ltb-false z y g)

-- days of an earlier month come before
earlier_month : (y m d n e : ℕ) → Valid y m d → Valid y n e → m < n → day_number y m d < day_number y n e
earlier_month y m d n e v w h =
    let g = months_on (leap y) (m + 1) (n - (m + 1)) (omega arith) (omega (arith, w.year)) in
    let k : m + 1 + (n - (m + 1)) ≡ n = omega arith in
    let t = ap (before (leap y)) k in
    omega (arith, v.last, v.day)

one_month : (y m d n e : ℕ) → Valid y m d → Valid y n e → day_number y m d ≡ day_number y n e → m ≡ n
one_month y m d n e v w h = go (cases_Bool (nat_lt m n)) (cases_Bool (nat_lt n m))
  where
    go : (nat_lt m n ≡ true) ⊎ (nat_lt m n ≡ false) → (nat_lt n m ≡ true) ⊎ (nat_lt n m ≡ false) → m ≡ n
    go (inl t) q = absurd (omega (arith, earlier_month y m d n e v w (ltb-true m n t)))
    go (inr f) (inl t) = absurd (omega (arith, earlier_month y n e m d w v (ltb-true n m t)))
    go (inr f) (inr g) = omega (arith, ltb-false m n f, ltb-false n m g)

one_date : (y m d z n e : ℕ) → Valid y m d → Valid z n e → day_number y m d ≡ day_number z n e → (y ≡ z) × (m ≡ n) × (d ≡ e)
one_date y m d z n e v w h =
    let a = one_year y m d z n e v w h in
    let w' : Valid y n e = subst (λ (u : ℕ). Valid u n e) (sym a) w in
    let h' : day_number y m d ≡ day_number y n e = h ∙ ap (λ (u : ℕ). day_number u n e) (sym a) in
    let b = one_month y m d n e v w' h' in
    let h'' : day_number y m d ≡ day_number y m e = h' ∙ ap (λ (u : ℕ). day_number y u e) (sym b) in
    (a, b, omega (arith, v.day, w.day))

pub same_date : (y m d z n e k : ℕ) → day_of y m d ≡ Some k → day_of z n e ≡ Some k → (y ≡ z) × (m ≡ n) × (d ≡ e)
same_date y m d z n e k p q =
    let a = known y m d k p in
    let b = known z n e k q in
    one_date y m d z n e a.0 b.0 (sym a.1 ∙ b.1)

laws : CalendarLaws
unfolding day_of year_start before
laws = record {
  one_date = same_date;
  is_day = day_small;
  saturday = refl;
  goes_on = λ k. omega arith;
  in_2000 = refl;
  in_2100 = refl;
}

pub calendar_stands : CalendarStands
unfolding CalendarStands
calendar_stands = laws
