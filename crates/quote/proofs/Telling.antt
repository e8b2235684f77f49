-- What a list answers to a sheet, by the sheets before it.
use Rattle.std.proofs.Common.{◌≡◌, ℕ, ◌+◌, ◌<◌, ◌≤◌, ◌^◌, Bool, true, false, cond, not, List, [], ◌∷◌, ◌++◌, map, filter, length, ℤ, sym, ap, refl, ◌∙◌, append-nil, arith}
use Rattle.std.proofs.lemmas.List.{map-append}
use Rattle.list.specs.Held.{LeadsOn, SameTable, Tells as Answers, held_of, places_of}
use Rattle.list.specs.Runs.{accepted, run}
use Rattle.list.specs.Runs.Call.{sheet}
use Rattle.list.specs.Sheets.{Outcome, sheet_outcome}
use Rattle.list.specs.declared.leaves.Leaves.{Leaves}
use Rattle.list.specs.declared.sheets.SheetAnswer.{SheetAnswer}
use Rattle.amounts.specs.declared.amount_leaf.AmountLeaf.{AmountLeaf}
use Rattle.amounts.specs.Amounts.{amounts}
use Rattle.days.specs.declared.day_leaf.DayLeaf.{DayLeaf}
use Rattle.days.specs.Days.{days}
use Rattle.sheets.specs.Output.{is_of_days}
use Rattle.quote.specs.Sheets.{amount_run, day_run, leaves_accepted, stop_as}
use Rattle.quote.specs.Taking.{Holds, Tells}
use Rattle.quote.proofs.Accepting.{accepted_few, accepted_more}

filter_last : {X : Type 0} (p : X → Bool) (xs : List X) (x : X) (b : Bool) → p x ≡ b → filter p (xs ++ x ∷ []) ≡ filter p xs ++ cond b (x ∷ []) []
filter_last p [] x b e = rw e (go b)
  where
    go : (t : Bool) → cond t (x ∷ []) [] ≡ cond t (x ∷ []) []
    go t = refl
filter_last p (y ∷ ys) x b e = go (p y) (filter_last p ys x b e)
  where
    go : (t : Bool) → filter p (ys ++ x ∷ []) ≡ filter p ys ++ cond b (x ∷ []) [] →
        cond t (y ∷ filter p (ys ++ x ∷ [])) (filter p (ys ++ x ∷ [])) ≡ cond t (y ∷ filter p ys) (filter p ys) ++ cond b (x ∷ []) []
    go true i = ap (λ zs. y ∷ zs) i
    go false i = i

-- one sheet more, of days or of amounts
module _ (before : List (List ℕ)) (b : List ℕ) where
  day_more : is_of_days b ≡ true → day_run (before ++ b ∷ []) ≡ day_run before ++ sheet b ∷ []
  day_more e = ap (map sheet) (filter_last is_of_days before b true e) ∙ map-append sheet (filter is_of_days before) (b ∷ [])

  day_same : is_of_days b ≡ false → day_run (before ++ b ∷ []) ≡ day_run before
  day_same e = ap (map sheet) (filter_last is_of_days before b false e ∙ append-nil (filter is_of_days before))

  amount_more : is_of_days b ≡ false → amount_run (before ++ b ∷ []) ≡ amount_run before ++ sheet b ∷ []
  amount_more e = ap (map sheet) (filter_last (λ c. not (is_of_days c)) before b true (ap not e)) ∙ map-append sheet (filter (λ c. not (is_of_days c)) before) (b ∷ [])

  amount_same : is_of_days b ≡ true → amount_run (before ++ b ∷ []) ≡ amount_run before
  amount_same e = ap (map sheet) (filter_last (λ c. not (is_of_days c)) before b false (ap not e) ∙ append-nil (filter (λ c. not (is_of_days c)) before))

  day_accepted : (r : ℕ) → is_of_days b ≡ true → r ≡ length (sheet_outcome days 1024 b (run days 1024 (day_run before))).taken → leaves_accepted before + r ≡ leaves_accepted (before ++ b ∷ [])
  day_accepted r e t =
      let m : length (accepted days 1024 (day_run (before ++ b ∷ []))) ≡ length (accepted days 1024 (day_run before)) + r =
      ap (λ cs. length (accepted days 1024 cs)) (day_more e) ∙ (accepted_more days 1024 (day_run before) b ∙ ap (λ (i : ℕ). length (accepted days 1024 (day_run before)) + i) (sym t)) in
      let s : length (accepted amounts 1024 (amount_run (before ++ b ∷ []))) ≡ length (accepted amounts 1024 (amount_run before)) = ap (λ cs. length (accepted amounts 1024 cs)) (amount_same e) in
      omega arith

  amount_accepted : (r : ℕ) → is_of_days b ≡ false → r ≡ length (sheet_outcome amounts 1024 b (run amounts 1024 (amount_run before))).taken → leaves_accepted before + r ≡ leaves_accepted (before ++ b ∷ [])
  amount_accepted r e t =
      let m : length (accepted amounts 1024 (amount_run (before ++ b ∷ []))) ≡ length (accepted amounts 1024 (amount_run before)) + r =
      ap (λ cs. length (accepted amounts 1024 cs)) (amount_more e) ∙ (accepted_more amounts 1024 (amount_run before) b ∙ ap (λ (i : ℕ). length (accepted amounts 1024 (amount_run before)) + i) (sym t)) in
      let s : length (accepted days 1024 (day_run (before ++ b ∷ []))) ≡ length (accepted days 1024 (day_run before)) = ap (λ cs. length (accepted days 1024 cs)) (day_same e) in
      omega arith

-- no more leaves are accepted than the two tables have places
few_accepted : (sheets : List (List ℕ)) (a : Leaves ℤ AmountLeaf) (d : Leaves ℕ DayLeaf) → Holds sheets a d → leaves_accepted sheets < 2 ^ 64
few_accepted sheets a d h =
    let x : length (accepted amounts 1024 (amount_run sheets)) ≤ 1024 = rw (← h.amount_places) (accepted_few amounts (filter (λ c. not (is_of_days c)) sheets) a h.of_amounts) in
    let y : length (accepted days 1024 (day_run sheets)) ≤ 1024 = rw (← h.day_places) (accepted_few days (filter is_of_days sheets) d h.of_days) in
    omega arith

-- a sheet goes into the list of its kind, and the other list stays
module _ (before : List (List ℕ)) (b : List ℕ) (a : Leaves ℤ AmountLeaf) (d : Leaves ℕ DayLeaf) (h : Holds before a d) where
  pub holds_days : (d' : Leaves ℕ DayLeaf) → is_of_days b ≡ true → LeadsOn days (sheet b) d d' → SameTable d d' → Holds (before ++ b ∷ []) a d'
  holds_days d' e on t = record {
    of_amounts = rw (amount_same before b e) h.of_amounts;
    of_days = rw (day_more before b e) (on (day_run before) h.of_days);
    amount_places = h.amount_places;
    day_places = t.places ∙ h.day_places;
  }

  pub holds_amounts : (a' : Leaves ℤ AmountLeaf) → is_of_days b ≡ false → LeadsOn amounts (sheet b) a a' → SameTable a a' → Holds (before ++ b ∷ []) a' d
  holds_amounts a' e on t = record {
    of_amounts = rw (amount_more before b e) (on (amount_run before) h.of_amounts);
    of_days = rw (day_same before b e) h.of_days;
    amount_places = t.places ∙ h.amount_places;
    day_places = h.day_places;
  }

module _ (before : List (List ℕ)) (b : List ℕ) (a a' : Leaves ℤ AmountLeaf) (d d' : Leaves ℕ DayLeaf) (r : SheetAnswer) where
  pub told_days : is_of_days b ≡ true → Holds before a d → Holds (before ++ b ∷ []) a' d' → Answers r (sheet_outcome days (places_of d) b (held_of d)) → Tells before b r
  told_days e h h' t =
      let o = sheet_outcome days 1024 b (run days 1024 (day_run before)) in
      let same : sheet_outcome days (places_of d) b (held_of d) ≡ o = ap (λ (n : ℕ). sheet_outcome days n b (held_of d)) h.day_places ∙ ap (sheet_outcome days 1024 b) (h.of_days.held ∙ ap (λ (n : ℕ). run days n (day_run before)) h.day_places) in
      let s : leaves_accepted before + r.accepted ≡ leaves_accepted (before ++ b ∷ []) = day_accepted before b r.accepted e (t.accepted ∙ ap (λ (p : Outcome DayLeaf). length p.taken) same) in
      record {
        accepted = s;
        few = rw s (few_accepted (before ++ b ∷ []) a' d' h');
        fault = t.fault ∙ ap (λ (p : Outcome DayLeaf). p.stop) same ∙ ap (λ (x : Bool). stop_as x before b) (sym e);
      }

  pub told_amounts : is_of_days b ≡ false → Holds before a d → Holds (before ++ b ∷ []) a' d' → Answers r (sheet_outcome amounts (places_of a) b (held_of a)) → Tells before b r
  told_amounts e h h' t =
      let o = sheet_outcome amounts 1024 b (run amounts 1024 (amount_run before)) in
      let same : sheet_outcome amounts (places_of a) b (held_of a) ≡ o = ap (λ (n : ℕ). sheet_outcome amounts n b (held_of a)) h.amount_places ∙ ap (sheet_outcome amounts 1024 b) (h.of_amounts.held ∙ ap (λ (n : ℕ). run amounts n (amount_run before)) h.amount_places) in
      let s : leaves_accepted before + r.accepted ≡ leaves_accepted (before ++ b ∷ []) = amount_accepted before b r.accepted e (t.accepted ∙ ap (λ (p : Outcome AmountLeaf). length p.taken) same) in
      record {
        accepted = s;
        few = rw s (few_accepted (before ++ b ∷ []) a' d' h');
        fault = t.fault ∙ ap (λ (p : Outcome AmountLeaf). p.stop) same ∙ ap (λ (x : Bool). stop_as x before b) (sym e);
      }
