-- The layout of day leaves shows its laws: what its fields make is what is written in them.
use Rattle.std.specs.Prelude.{◌≡◌, ℕ, ◌^◌, ◌<◌, Bool, true, false, List, [], ◌∷◌, Some, None, Option, is_some, ⊤, refl}
use Rattle.std.proofs.Common.{sym, ap, ◌∙◌, arith}
use Rattle.std.proofs.lemmas.Bool.{cond_both, ltb-true, true≢false}
use Rattle.leaf.specs.Kind.{Lawful}
use Rattle.leaf.specs.Layouts.{LayoutLaws, is_of_field, is_written_window, written_leaf}
use Rattle.leaf.specs.Plans.{done, field, fits_if, then}
use Rattle.leaf.specs.Windows.{written}
use Rattle.leaf.specs.Laws.Headed.{HeadedLaws, fitting, headed_laws}
use Rattle.leaf.specs.Laws.Parts.{Part, number_part}
use Rattle.leaf.specs.Laws.Fielded.{unfit_flags, unfit_in}
use Rattle.leaf.specs.Laws.Flags.{unsigned}
use Rattle.days.specs.declared.calendar.Date.{Date}
use Rattle.days.specs.Calendar.{day_number, day_of, is_date}
use Rattle.days.specs.Dates.{dated, day_small, same_date, valid}
use Rattle.days.specs.Days.{days}
use Rattle.days.specs.Lawful.{leaf_lawful}
use Rattle.days.specs.Leaves.{is_bound, is_window}
use Rattle.days.specs.Making.{numbered}
use Rattle.days.specs.Grammar.{DayRefusals}
use Rattle.days.specs.Layout.{Role, flags, year, month, day, weekdays, Written, date, date_numbers, day_fields, day_layout, day_table, is_day}
use Rattle.days.specs.Weekdays.{is_set}
use Rattle.leaf.specs.Numbers.{are_flags}

-- a date that there is has a number, and what has one is a date
numbered_is : (d : Date) → is_day d ≡ true → numbered d ≡ Some (day_number d.year d.month d.day)
numbered_is d h = dated d.year d.month d.day (valid d.year d.month d.day h)

pub is_there : (y m d : ℕ) → is_some (day_of y m d) ≡ is_date y m d
unfolding day_of
is_there y m d = cond_both (is_date y m d) (Some (day_number y m d)) None (λ o. is_some o ≡ is_date y m d) (λ t. sym t) (λ f. sym f)

-- a date is three numbers
dates : (n : Bool) → Part day_table (date n) date_numbers is_day numbered
dates n = record {
  stood = λ s at o end (y, a, u, (m, b, v, (d, c, w, (q, h)))). (record { year = y; month = m; day = d }, sym (is_there y m d) ∙ w.fits, q, (a, u.stands, (b, v.stands, (c, w.stands, h))));
  makes = λ s at d end h (a, u, (b, v, (c, w, r))).
      (d.year, a, record { stands = u; fits = refl }, (d.month, b, record { stands = v; fits = refl }, (d.day, c, record { stands = w; fits = is_there d.year d.month d.day ∙ h }, (refl, r))));
  below = λ d h.
      let v = valid d.year d.month d.day h in
      let n : day_number d.year d.month d.day < 73049 = ltb-true (day_number d.year d.month d.day) 73049 (day_small d.year d.month d.day (day_number d.year d.month d.day) (numbered_is d h)) in
      (omega (arith, v.to), (omega (arith, v.year), (omega (arith, n), tt)));
}

set_below : (n : ℕ) → is_set n ≡ true → n < 2 ^ 64
set_below n h = grind arith

sets : Part day_table (field weekdays) (λ n. n ∷ []) is_set (λ n. n)
sets = number_part day_table weekdays refl set_below

own : (r : Role) → is_of_field (day_table.refusal r) ≡ true
own flags = refl
own year = refl
own month = refl
own (day first y m) = refl
own weekdays = refl

same_day : (d c : Date) → is_day d ≡ true → is_day c ≡ true → numbered d ≡ numbered c → d ≡ c
same_day d c h g e =
    let n = numbered_is c g in
    let (y, m, k) = same_date d.year d.month d.day c.year c.month c.day (day_number c.year c.month c.day) (e ∙ n) n in
    λ i. record { year = y i; month = m i; day = k i }

field_laws : HeadedLaws day_fields (λ _. is_day)
field_laws = record {
  own = own;
  shape = refl;
  flag = unsigned day_fields (λ f. refl) (λ low high. refl);
  bounds = dates;
  rest = sets;
  valued = λ d h. (day_number d.year d.month d.day, numbered_is d h);
  same_bound = same_day;
  same_rest = λ n m h g e. e;
}

pub layout_laws : LayoutLaws day_layout
layout_laws = headed_laws day_fields field_laws is_window (λ bounds set. record { bounds = bounds; weekdays = set })

pub written_lawful : (w : Written) → day_layout.fits w ≡ true → is_written_window day_layout w ≡ true → Lawful days (written_leaf day_layout w)
written_lawful w f t = let (a, b, set) = fitting day_fields field_laws w f in leaf_lawful (written numbered w.low) (written numbered w.high) w.rest (bounded w.low a) (bounded w.high b) t set
  where
    bounded : (o : Option Date) → fits_if is_day o ≡ true → is_bound (written numbered o) ≡ true
    bounded None h = refl
    bounded (Some d) h = let n = numbered_is d h in ap is_bound n ∙ day_small d.year d.month d.day (day_number d.year d.month d.day) n

-- which fields give which refusal
pub refusals : (s : List ℕ) → DayRefusals s
refusals s = record {
  four = λ at. unfit_flags day_table s flags date (λ b. then (field weekdays) (λ set. done (record { bounds = b; rest = set }))) at (are_flags false) 4 (λ _. refl) refl refl refl (λ n. (refl, λ _ _. (refl, λ _ _. (refl, λ _ _. tt)))) (λ w. ((refl, λ _ _. tt), λ _. tt)) four;
  five = λ at p u. others 5 (λ z. omega (arith, z)) (λ z. omega (arith, z)) (λ z. omega (arith, z)) u.field u.refusal_is;
  six = λ at p u. others 6 (λ z. omega (arith, z)) (λ z. omega (arith, z)) (λ z. omega (arith, z)) u.field u.refusal_is;
  seven = λ at. unfit_in day_table s day_layout.plan at (λ d. day d.0 d.1 d.2) (λ d n. is_some (day_of d.1 d.2 n)) 7 (λ _ _. refl) (λ _. refl) (λ _. refl) seven;
  nine = λ at. unfit_in day_table s day_layout.plan at (λ (_ : ⊤). weekdays) (λ _. is_set) 9 (λ _ _. refl) (λ _. refl) (λ _. refl) nine;
}
  where
    others : (m : ℕ) → (m ≡ 4 → ⊥) → (m ≡ 7 → ⊥) → (m ≡ 9 → ⊥) → (q : Role) → m ≡ day_table.refusal q → ⊥
    others m a b c flags e = a e
    others m a b c year e = b e
    others m a b c month e = b e
    others m a b c (day first y d) e = b e
    others m a b c weekdays e = c e

    four : (q : Role) → 4 ≡ day_table.refusal q → q ≡ flags
    four flags e = refl
    four year e = absurd (omega (arith, e))
    four month e = absurd (omega (arith, e))
    four (day first y m) e = absurd (omega (arith, e))
    four weekdays e = absurd (omega (arith, e))

    seven : (q : Role) (n : ℕ) → 7 ≡ day_table.refusal q → day_table.fits q n ≡ false → (d : ℕ × ℕ × ℕ) × (q ≡ day d.0 d.1 d.2)
    seven flags n e f = absurd (omega (arith, e))
    seven year n e f = absurd (true≢false f)
    seven month n e f = absurd (true≢false f)
    seven (day first y m) n e f = ((first, y, m), refl)
    seven weekdays n e f = absurd (omega (arith, e))

    nine : (q : Role) (n : ℕ) → 9 ≡ day_table.refusal q → day_table.fits q n ≡ false → ⊤ × (q ≡ weekdays)
    nine flags n e f = absurd (omega (arith, e))
    nine year n e f = absurd (omega (arith, e))
    nine month n e f = absurd (omega (arith, e))
    nine (day first y m) n e f = absurd (omega (arith, e))
    nine weekdays n e f = (tt, refl)
