-- The next day on the grid.
use Rattle.std.specs.Prelude.{◌≡◌, ℕ, zero, suc, ◌+◌, ◌-◌, ◌%◌, ◌<◌, ◌≤◌, true, false, cond, ◌&&◌, ◌⊎◌, Some, None, ◌==◌, ◌≢◌, nat_lt, refl}
use Rattle.std.proofs.Common.{sym, ap, ◌∙◌, inl, inr, arith}
use Rattle.std.proofs.lemmas.Bool.{cond-true, cond-false, lt-ltb, le-ltb, ltb-true, ltb-false, cases_Bool, cond_both, and_parts, and_from, true≢false}
use Rattle.leaf.specs.Numbers.{has_bit}
use Rattle.days.specs.Calendar.{is_day_number, weekday}
use Rattle.days.specs.Weekdays.{first_after, next_day, is_on_grid}

pub absent : (w : ℕ) → None ≢ Some w
absent w e = let z : ◌≡◌ {A = ℕ} 0 1 = cc in absurd (omega arith)

pub grid_day : (set n : ℕ) → is_on_grid set n ≡ true → n < 73049
unfolding is_on_grid
grid_day set n h = ltb-true n 73049 (and_parts (is_day_number n) (has_bit set (weekday n)) h).0

pub off_grid : (set n : ℕ) → 73049 ≤ n → is_on_grid set n ≡ false
unfolding is_on_grid
off_grid set n h = ap (λ b. b && has_bit set (weekday n)) (le-ltb n 73049 h)

-- seven days on is the same weekday
pub grid_again : (set u x : ℕ) → is_on_grid set u ≡ true → x ≤ u → weekday x ≡ weekday u → is_on_grid set x ≡ true
unfolding is_on_grid
grid_again set u x h l e =
    let p = and_parts (is_day_number u) (has_bit set (weekday u)) h in
    and_from _ _ (lt-ltb x 73049 (omega (arith, ltb-true u 73049 p.0))) (ap (has_bit set) e ∙ p.1)

-- the step of a search: a day not on the grid is passed over
pub passed : (set n k : ℕ) → is_on_grid set (n + 1) ≡ false → first_after set n (suc k) ≡ first_after set (n + 1) k
passed set n k h = cond-false _ _ _ h

pub first_grid : (set n k w : ℕ) → first_after set n k ≡ Some w → (is_on_grid set w ≡ true) × (n < w)
first_grid set n zero w = λ e. absurd (absent w e)
first_grid set n (suc k) w = cond_both (is_on_grid set (n + 1)) (Some (n + 1)) (first_after set (n + 1) k) (λ r. r ≡ Some w → (is_on_grid set w ≡ true) × (n < w))
    (λ t e. let q : n + 1 ≡ w = cc in (ap (is_on_grid set) (sym q) ∙ t, omega arith))
    (λ f e. let r = first_grid set (n + 1) k w e in (r.0, omega (arith, r.1)))

pub first_least : (set n k w u : ℕ) → first_after set n k ≡ Some w → is_on_grid set u ≡ true → n < u → w ≤ u
first_least set n zero w u = λ e g h. absurd (absent w e)
first_least set n (suc k) w u = cond_both (is_on_grid set (n + 1)) (Some (n + 1)) (first_after set (n + 1) k) (λ r. r ≡ Some w → is_on_grid set u ≡ true → n < u → w ≤ u)
    (λ t e g h. let q : n + 1 ≡ w = cc in omega arith)
    (λ f e g h. first_least set (n + 1) k w u e g (later (n + 1) u f g (omega arith)))
  where
    later : (m v : ℕ) → is_on_grid set m ≡ false → is_on_grid set v ≡ true → m ≤ v → m < v
    later m v f g h = go (cases_Bool (nat_lt m v))
      where
        go : (nat_lt m v ≡ true) ⊎ (nat_lt m v ≡ false) → m < v
        go (inl t) = ltb-true m v t
        go (inr x) = let q : m ≡ v = omega (arith, ltb-false m v x) in absurd (true≢false (sym g ∙ (ap (is_on_grid set) (sym q) ∙ f)))

pub first_none : (set n k x : ℕ) → first_after set n k ≡ None → n < x → x ≤ n + k → is_on_grid set x ≡ false
first_none set n zero x = λ e h l. absurd (omega arith)
first_none set n (suc k) x = cond_both (is_on_grid set (n + 1)) (Some (n + 1)) (first_after set (n + 1) k) (λ r. r ≡ None → n < x → x ≤ n + suc k → is_on_grid set x ≡ false)
    (λ t e h l. cc)
    (λ f e h l. go f (first_none set (n + 1) k x e) h l (cases_Bool (x == n + 1)))
  where
    go : is_on_grid set (n + 1) ≡ false → (n + 1 < x → x ≤ n + 1 + k → is_on_grid set x ≡ false) → n < x → x ≤ n + suc k → ((x == n + 1) ≡ true) ⊎ ((x == n + 1) ≡ false) → is_on_grid set x ≡ false
    go f r h l (inl t) = let q : x ≡ n + 1 = grind arith in ap (is_on_grid set) q ∙ f
    go f r h l (inr d) = r (grind arith) (omega arith)

-- seven days are enough
pub none_later : (set n u : ℕ) → first_after set n 7 ≡ None → is_on_grid set u ≡ true → n < u → ⊥
none_later set n u e g h =
    let x = n + 1 + (u - n - 1) % 7 in
    let f = first_none set n 7 x e (omega arith) (omega arith) in
    let w : weekday x ≡ weekday u = omega arith in
    true≢false (sym (grid_again set u x g (omega arith) w) ∙ f)

-- the law of the next day
pub next_grid : (set n w : ℕ) → next_day set n ≡ Some w → (is_on_grid set w ≡ true) × (n < w)
unfolding next_day
next_grid set n w e = first_grid set n 7 w e

pub next_least : (set n w u : ℕ) → next_day set n ≡ Some w → is_on_grid set u ≡ true → n < u → w ≤ u
unfolding next_day
next_least set n w u e g h = first_least set n 7 w u e g h

pub next_none : (set n u : ℕ) → next_day set n ≡ None → is_on_grid set u ≡ true → u ≤ n
unfolding next_day
next_none set n u e g = go (cases_Bool (nat_lt n u))
  where
    go : (nat_lt n u ≡ true) ⊎ (nat_lt n u ≡ false) → u ≤ n
    go (inl t) = absurd (none_later set n u e g (ltb-true n u t))
    go (inr f) = ltb-false n u f

-- none past the last day
none_past : (set n k : ℕ) → 73048 ≤ n → first_after set n k ≡ None
none_past set n zero h = refl
none_past set n (suc k) h = passed set n k (off_grid set (n + 1) (omega arith)) ∙ none_past set (n + 1) k (omega arith)

-- what the search of the days after n has left, with those up to m passed over
pub next_past : (set n : ℕ) → 73048 ≤ n → next_day set n ≡ None
unfolding next_day
next_past set n h = none_past set n 7 h

abbrev pub Searched : ℕ → ℕ → ℕ → Type 0
Searched set n m = next_day set n ≡ first_after set (m - 1) (n + 8 - m)

pub searched : (set n : ℕ) → Searched set n (n + 1)
unfolding next_day
searched set n =
    let a : n + 1 - 1 ≡ n = omega arith in
    let b : n + 8 - (n + 1) ≡ 7 = omega arith in
    ap (λ x. first_after set x 7) (sym a) ∙ ap (first_after set (n + 1 - 1)) (sym b)

one_left : (set n m : ℕ) → n < m → m < n + 8 → first_after set (m - 1) (n + 8 - m) ≡ cond (is_on_grid set m) (Some m) (first_after set m (n + 8 - (m + 1)))
one_left set n m l h =
    let a : n + 8 - m ≡ suc (n + 8 - (m + 1)) = omega arith in
    let b : m - 1 + 1 ≡ m = omega arith in
    ap (first_after set (m - 1)) a ∙ ap (λ x. cond (is_on_grid set x) (Some x) (first_after set x (n + 8 - (m + 1)))) b

pub search_hit : (set n m : ℕ) → n < m → m < n + 8 → Searched set n m → is_on_grid set m ≡ true → next_day set n ≡ Some m
search_hit set n m l h s t = s ∙ one_left set n m l h ∙ cond-true _ _ _ t

pub search_on : (set n m : ℕ) → n < m → m < n + 8 → Searched set n m → is_on_grid set m ≡ false → Searched set n (m + 1)
search_on set n m l h s f =
    let a : m + 1 - 1 ≡ m = omega arith in
    s ∙ one_left set n m l h ∙ cond-false _ _ _ f ∙ ap (λ x. first_after set x (n + 8 - (m + 1))) (sym a)
