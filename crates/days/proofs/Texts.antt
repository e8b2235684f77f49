-- The date of a day's number is the one that has that number; how long texts are.
use Rattle.std.proofs.Common.{◌≡◌, ℕ, zero, suc, ◌+◌, ◌-◌, ◌<◌, ◌≤◌, cond, leb, [], ◌∷◌, ◌++◌, length, Some, None, Option, sym, refl, ap, ◌∙◌, ⊎_elim, arith}
use Rattle.std.proofs.lemmas.List.{length-append}
use Rattle.std.proofs.lemmas.Bool.{cases_lt, cond_both, cond-false, cond-true, le-leb, lt-leb}
use Rattle.leaf.specs.Numbers.{has_bit}
use Rattle.days.specs.declared.calendar.Date.{Date}
use Rattle.days.specs.Calendar.{Valid, before, day_of, is_day_number, leap, year_start}
use Rattle.days.specs.Text.{bound_text, date_in, date_of, date_text, reached, weekdays_text, year_of}
use Rattle.days.specs.Dates.{day_small, in_year, known}
use Rattle.days.specs.Tables.{months_on, years}

-- of what rises, all up to the last that is reached are
module _ (f : ℕ → ℕ) (top n : ℕ) (rises : (a j : ℕ) → a + j ≤ top → f a ≤ f (a + j)) where
  all_reached : (k : ℕ) → k ≤ top → f k ≤ n → reached f k n ≡ k
  unfolding reached
  all_reached zero h l = refl
  all_reached (suc k) h l =
      let e : k + 1 ≡ suc k = omega arith in
      let r = rises k 1 (omega arith) in
      let s = ap f e in
      let c : ◌≡◌ {A = ℕ} (cond (leb (f (suc k)) n) 1 0) 1 = cond-true (leb (f (suc k)) n) 1 0 (le-leb (f (suc k)) n l) in
      omega (arith, all_reached k (omega arith) (omega arith))

  not_reached : (a k : ℕ) → a ≤ k → suc k ≤ top → n < f (a + 1) → reached f k n ≡ a → reached f (suc k) n ≡ a
  unfolding reached
  not_reached a k h t g i =
      let e : a + 1 + (k - a) ≡ suc k = omega arith in
      let r = rises (a + 1) (k - a) (omega arith) in
      let s = ap f e in
      let c : ◌≡◌ {A = ℕ} (cond (leb (f (suc k)) n) 1 0) 0 = cond-false (leb (f (suc k)) n) 1 0 (lt-leb (f (suc k)) n (omega arith)) in
      omega arith

  reached_is : (a k : ℕ) → a ≤ k → k ≤ top → f a ≤ n → n < f (a + 1) → reached f k n ≡ a
  unfolding reached
  reached_is a zero h t l g = omega arith
  reached_is a (suc k) h t l g =
      ⊎_elim (λ b. not_reached a k (omega arith) t g (reached_is a k (omega arith) (omega arith) l g))
      (λ b. let e : a ≡ suc k = omega arith in all_reached (suc k) t (omega (arith, ap f e)) ∙ sym e) (cases_lt a (suc k))

month_is : (y m d left : ℕ) → Valid y m d → left ≡ before (leap y) m + (d - 1) → date_in y left ≡ record { year = y; month = m; day = d }
month_is y m d left v e =
    let l = leap y in
    let h : m - 1 + 1 ≡ m = omega (arith, v.month) in
    let low = ap (before l) h in
    let r = reached_is (λ k. before l (k + 1)) 12 left (λ a j b. let q : a + 1 + j ≡ a + j + 1 = omega arith in let o = ap (before l) q in let g = months_on l (a + 1) j (omega arith) (omega arith) in omega arith)
    (m - 1) 11 (omega (arith, v.year)) (omega arith) (omega arith) (let q = ap (λ (k : ℕ). before l (k + 1)) h in omega (arith, v.last, v.day)) in
    let n : 1 + reached (λ k. before l (k + 1)) 11 left ≡ m = omega (arith, v.month) in
    let p : left - before l m + 1 ≡ d = omega (arith, v.day) in
    ap (λ (k : ℕ). record { year = y; month = k; day = left - before l k + 1 }) n ∙ ap (λ (k : ℕ). record { year = y; month = m; day = k }) p

-- the date of a number is the one that has it
date_is : (d : Date) (n : ℕ) → day_of d.year d.month d.day ≡ Some n → date_of n ≡ d
unfolding date_of
date_is d n h =
    let y = d.year in
    let k = known y d.month d.day n h in
    let v = k.0 in
    let s : y - 2000 + 1 ≡ y + 1 - 2000 = omega (arith, v.from) in
    let g = in_year y d.month d.day v in
    let r = reached_is year_start 200 n (λ a j _. years a j) (y - 2000) 199 (omega (arith, v.to)) (omega arith) (omega (arith, k.1)) (let q = ap year_start s in omega (arith, k.1)) in
    let e : year_of n ≡ y = omega (arith, v.from) in
    ap (λ (z : ℕ). date_in z (n - year_start (z - 2000))) e ∙ month_is y d.month d.day (n - year_start (y - 2000)) v (omega (arith, k.1))

pub date_text_lem : (d : Date) (n : ℕ) → day_of d.year d.month d.day ≡ Some n → bound_text (Some n) ≡ date_text d
date_text_lem d n h = cond-true (is_day_number n) (date_text (date_of n)) (42 ∷ []) (day_small d.year d.month d.day n h) ∙ ap date_text (date_is d n h)

pub bound_short : (o : Option ℕ) → length (bound_text o) ≤ 10
bound_short None = omega arith
bound_short (Some n) = cond_both (is_day_number n) (date_text (date_of n)) (42 ∷ []) (λ t. length t ≤ 10) (λ _. omega arith) (λ _. omega arith)

pub weekdays_short : (set k : ℕ) → length (weekdays_text set k) ≤ k
weekdays_short set zero = omega arith
weekdays_short set (suc k) =
    cond_both (has_bit set k) ((49 + k) ∷ []) [] (λ t. length (weekdays_text set k ++ t) ≤ suc k)
    (λ _. omega (arith, length-append (weekdays_text set k) ((49 + k) ∷ []), weekdays_short set k)) (λ _. omega (arith, length-append {A = ℕ} (weekdays_text set k) [], weekdays_short set k))
