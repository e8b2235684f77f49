-- Where months and years start.
use Rattle.std.specs.Prelude.{◌≡◌, ℕ, zero, suc, ◌+◌, ◌-◌, ◌<◌, ◌≤◌, Bool, true, false, ◌⊎◌, List, [], ◌∷◌, map, length, slice_index, refl}
use Rattle.std.proofs.Common.{sym, ap, ◌∙◌, inl, inr, arith, add-one}
use Rattle.std.specs.List.{AllByRecursion}
use Rattle.std.proofs.lemmas.Bool.{true≢false}
use Rattle.days.specs.Calendar.{before, leap, lengths, month_days, sums, year_start}

-- the table of a common year
abbrev pub month_starts : List ℕ
month_starts = 0 ∷ 31 ∷ 59 ∷ 90 ∷ 120 ∷ 151 ∷ 181 ∷ 212 ∷ 243 ∷ 273 ∷ 304 ∷ 334 ∷ 365 ∷ []

-- each sum is the one before and one item more
sums_on : (a : ℕ) (xs : List ℕ) (i : ℕ) → i < length xs → slice_index (sums a xs) (suc i) ≡ slice_index (sums a xs) i + slice_index xs i
sums_on a [] i h = absurd (omega arith)
sums_on a (x ∷ []) zero h = refl
sums_on a (x ∷ y ∷ xs) zero h = refl
sums_on a (x ∷ xs) (suc i) h = sums_on (a + x) xs i (omega arith)

-- a month starts where the one before ends
pub month_on : (l : Bool) (m : ℕ) → 1 ≤ m → m ≤ 12 → before l (m + 1) ≡ before l m + month_days l m
unfolding before
month_on l m h g =
    let e : m + 1 - 1 ≡ suc (m - 1) = omega arith in
    ap (λ (i : ℕ). slice_index (sums 0 (lengths l)) i) e ∙ sums_on 0 (lengths l) (m - 1) (omega arith)

more : (xs : List ℕ) (j : ℕ) → j < length xs → slice_index (map (λ x. x + 1) xs) j ≡ slice_index xs j + 1
more [] j h = absurd (omega arith)
more (x ∷ xs) zero h = refl
more (x ∷ xs) (suc j) h = more xs j (omega arith)

-- The table holds what the lengths of the months add up to, one more after February in a leap year.
pub table_late : (m : ℕ) → 2 < m → m ≤ 13 → before true m ≡ slice_index month_starts (m - 1) + 1
unfolding before
table_late m h g =
    let e : m - 1 ≡ suc (suc (m - 3)) = omega arith in
    ap (λ (i : ℕ). slice_index (sums 0 (lengths true)) i) e ∙
    (more (59 ∷ 90 ∷ 120 ∷ 151 ∷ 181 ∷ 212 ∷ 243 ∷ 273 ∷ 304 ∷ 334 ∷ 365 ∷ []) (m - 3) (omega arith) ∙
    ap (λ (i : ℕ). slice_index month_starts i + 1) (sym e))

first_two : (i : ℕ) → i ≤ 1 → slice_index (sums 0 (lengths true)) i ≡ slice_index month_starts i
first_two zero h = refl
first_two (suc zero) h = refl
first_two (suc (suc i)) h = absurd (omega arith)

pub table_early : (l : Bool) (m : ℕ) → (l ≡ false) ⊎ (m ≤ 2) → before l m ≡ slice_index month_starts (m - 1)
unfolding before
table_early false m h = refl
table_early true m (inl e) = absurd (true≢false e)
table_early true m (inr h) = first_two (m - 1) (omega arith)

below : (k : ℕ) (xs : List ℕ) → AllByRecursion (λ x. x ≤ k) xs → (i : ℕ) → slice_index xs i ≤ k
below k [] h i = omega arith
below k (x ∷ xs) h zero = h.0
below k (x ∷ xs) h (suc i) = below k xs h.1 i

pub start_le : (i : ℕ) → slice_index month_starts i ≤ 365
start_le i = below 365 month_starts (omega arith) i

-- no month starts past the year's end
pub months : (l : Bool) (m : ℕ) → before l m ≤ before l 13
unfolding before
months false m = below 365 (sums 0 (lengths false)) (omega arith) (m - 1)
months true m = below 366 (sums 0 (lengths true)) (omega arith) (m - 1)

pub first_month : (l : Bool) → before l 1 ≡ 0
unfolding before
first_month l = refl

-- later months start later
pub months_on : (l : Bool) (m j : ℕ) → 1 ≤ m → m + j ≤ 13 → before l m ≤ before l (m + j)
months_on l m zero h g = let e = ap (before l) (z m) in omega arith
  where
    z : (n : ℕ) → n + 0 ≡ n
    z n = omega arith
months_on l m (suc j) h g =
    let e : m + suc j ≡ m + j + 1 = omega arith in
    let s = ap (before l) e ∙ month_on l (m + j) (omega arith) (omega arith) in
    omega (arith, months_on l m j h (omega arith))

pub year_more : (k : ℕ) → year_start (k + 1) ≡ year_start k + before (leap (2000 + k)) 13
unfolding year_start
year_more k = ap year_start (add-one k)

pub year_none : year_start 0 ≡ 0
unfolding year_start
year_none = refl

-- one year on, at the year itself
pub year_step : (y : ℕ) → 2000 ≤ y → year_start (y + 1 - 2000) ≡ year_start (y - 2000) + before (leap y) 13
year_step y h =
    let e : y + 1 - 2000 ≡ (y - 2000) + 1 = omega arith in
    let f : 2000 + (y - 2000) ≡ y = omega arith in
    ap year_start e ∙ (year_more (y - 2000) ∙ ap (λ z. year_start (y - 2000) + before (leap z) 13) f)

pub years : (k j : ℕ) → year_start k ≤ year_start (k + j)
years k zero = let e : k + 0 ≡ k = omega arith in let s = ap year_start e in omega arith
years k (suc j) =
    let e : k + suc j ≡ (k + j) + 1 = omega arith in
    let s = ap year_start e ∙ year_more (k + j) in
    omega (arith, years k j)

pub all_years : year_start 200 ≡ 73049
unfolding year_start before
all_years = refl
