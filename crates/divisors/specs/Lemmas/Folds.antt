-- The computed fold is the fold, and there is one; it is no longer than the list.
use Rattle.std.proofs.Common.{◌≡◌, ℕ, zero, suc, ◌<◌, ◌≤◌, List, get_or, length, set, Some, None, Option, refl, sym, ap, ◌∙◌, subst, arith}
use Rattle.std.specs.List.{AllByRecursion}
use Rattle.std.proofs.lemmas.List.{length-set}
use Rattle.std.proofs.lemmas.List.Edits.{length-remove}
use Rattle.divisors.specs.declared.folding.Pair.{Pair}
use Rattle.divisors.specs.declared.folding.Strip.{Strip}
use Rattle.divisors.specs.declared.fraction.Fraction.{Fraction}
use Rattle.divisors.specs.Folding.{FirstJoin, FirstStrip, FoldsTo, JoinsTo, NoJoin, NoStrip, StepsTo, StripsTo, done, first_join_of, first_strip_of, fold_in, fold_of, joined_by, joins, stepped, stripped_by, strips, weight}
use Rattle.divisors.specs.Fractions.{Reduced, none}
use Rattle.divisors.specs.Joining.{join_of, strip_by}
use Rattle.divisors.specs.Lists.{tidy_of}
use Rattle.divisors.specs.Lemmas.Admits.{joined_reduced, step_reduced, stripped_reduced}
use Rattle.divisors.specs.Lemmas.Firsts.{clash, no_join, first_join, no_strip, first_strip, one_join, one_strip}
use Rattle.divisors.specs.Lemmas.Tidied.{tidied_is, tidies_of}
use Rattle.divisors.specs.Lemmas.Tidies.{join_weight, strip_weight, tidy_length}

join_or_not : (xs : List Fraction) (t : Pair) → NoJoin xs → FirstJoin xs t → ⊥
join_or_not xs t n f = clash (join_of (get_or xs t.left none) (get_or xs t.right none)) t.join (n t.left t.right f.ordered f.within) f.joins

strip_or_not : (xs : List Fraction) (t : Strip) → NoStrip xs → FirstStrip xs t → ⊥
strip_or_not xs t n f = clash (strip_by (get_or xs t.at none) (get_or xs t.by none)) t.left (n t.at t.by f.within f.by_within f.other) f.strips

no_step : (xs ys : List Fraction) → NoJoin xs → NoStrip xs → StepsTo xs ys → ⊥
no_step xs ys n m (joins j) = join_or_not xs j.pair n j.first
no_step xs ys n m (strips s) = strip_or_not xs s.strip m s.first

module _ (xs : List Fraction) (h : AllByRecursion Reduced xs) where
  -- which list a join leaves
  pub join_is : (ys : List Fraction) (t : Pair) → FirstJoin xs t → JoinsTo xs ys → ys ≡ tidy_of (joined_by t xs)
  join_is ys t f j =
      tidied_is (joined_by j.pair xs) ys (joined_reduced xs j.pair h j.first) j.tidies ∙
      ap (λ (u : Pair). tidy_of (joined_by u xs)) (one_join xs j.pair t j.first f)

  -- which list a strip leaves
  pub strip_is : (ys : List Fraction) (t : Strip) → FirstStrip xs t → StripsTo xs ys → ys ≡ tidy_of (stripped_by t xs)
  strip_is ys t f s =
      tidied_is (stripped_by s.strip xs) ys (stripped_reduced xs s.strip h s.first) s.tidies ∙
      ap (λ (u : Strip). tidy_of (stripped_by u xs)) (one_strip xs s.strip t s.first f)

  one_step : (ys zs : List Fraction) → StepsTo xs ys → StepsTo xs zs → ys ≡ zs
  one_step ys zs (joins j) (joins k) = join_is ys j.pair j.first j ∙ sym (join_is zs j.pair j.first k)
  one_step ys zs (joins j) (strips k) = absurd (join_or_not xs j.pair k.joinless j.first)
  one_step ys zs (strips j) (joins k) = absurd (join_or_not xs k.pair j.joinless k.first)
  one_step ys zs (strips j) (strips k) = strip_is ys j.strip j.first j ∙ sym (strip_is zs j.strip j.first k)

  -- each step makes the list lighter
  pub step_weight : (ys : List Fraction) → StepsTo xs ys → weight ys < weight xs
  step_weight ys (joins j) = subst (λ (zs : List Fraction). weight zs < weight xs) (sym (join_is ys j.pair j.first j)) (join_weight xs j.pair j.first)
  step_weight ys (strips s) = subst (λ (zs : List Fraction). weight zs < weight xs) (sym (strip_is ys s.strip s.first s)) (strip_weight xs s.strip s.first)

  pub by_join : (t : Pair) → FirstJoin xs t → StepsTo xs (tidy_of (joined_by t xs))
  by_join t f = joins (record { pair = t; first = f; tidies = tidies_of (joined_by t xs) (joined_reduced xs t h f) })

  pub by_strip : (t : Strip) → NoJoin xs → FirstStrip xs t → StepsTo xs (tidy_of (stripped_by t xs))
  by_strip t n f = strips (record { joinless = n; strip = t; first = f; tidies = tidies_of (stripped_by t xs) (stripped_reduced xs t h f) })

-- a list folds to one list only
fold_one : (xs ys zs : List Fraction) → AllByRecursion Reduced xs → FoldsTo xs ys → FoldsTo xs zs → ys ≡ zs
fold_one xs ys zs h (done n m) (done o p) = refl
fold_one xs ys zs h (done n m) (stepped {ys = us} s b) = absurd (no_step xs us n m s)
fold_one xs ys zs h (stepped {ys = us} s a) (done o p) = absurd (no_step xs us o p s)
fold_one xs ys zs h (stepped {ys = us} s a) (stepped {ys = vs} t b) =
    fold_one us ys zs (step_reduced xs us h s) a (subst (λ (ws : List Fraction). FoldsTo ws zs) (one_step xs h vs us t s) b)

folds_in : (k : ℕ) (xs : List Fraction) → AllByRecursion Reduced xs → weight xs < k → FoldsTo xs (fold_in k xs)
unfolding fold_in
folds_in zero xs h l = absurd (omega arith)
folds_in (suc k) xs h l = go (first_join_of xs) refl (folds_in k)
  where
    step : (ys : List Fraction) → ((zs : List Fraction) → AllByRecursion Reduced zs → weight zs < k → FoldsTo zs (fold_in k zs)) → StepsTo xs ys → FoldsTo xs (fold_in k ys)
    step ys r s = stepped s (r ys (step_reduced xs ys h s) (omega (arith, step_weight xs h ys s)))

    strip : (o : Option Strip) → first_strip_of xs ≡ o → NoJoin xs → ((ys : List Fraction) → AllByRecursion Reduced ys → weight ys < k → FoldsTo ys (fold_in k ys)) → FoldsTo xs (elim o [ Some t ↦ fold_in k (tidy_of (stripped_by t xs)) | None ↦ xs ])
    strip (Some t) e n r = step (tidy_of (stripped_by t xs)) r (by_strip xs h t n (first_strip xs t e))
    strip None e n r = done n (no_strip xs e)

    go : (o : Option Pair) → first_join_of xs ≡ o → ((ys : List Fraction) → AllByRecursion Reduced ys → weight ys < k → FoldsTo ys (fold_in k ys)) → FoldsTo xs (elim o [ Some t ↦ fold_in k (tidy_of (joined_by t xs)) | None ↦ elim (first_strip_of xs) [ Some t ↦ fold_in k (tidy_of (stripped_by t xs)) | None ↦ xs ] ])
    go (Some t) e r = step (tidy_of (joined_by t xs)) r (by_join xs h t (first_join xs t e))
    go None e r = strip (first_strip_of xs) refl (no_join xs e) r

-- the computed fold is what the list folds to
pub fold_is : (xs : List Fraction) → AllByRecursion Reduced xs → FoldsTo xs (fold_of xs)
unfolding fold_of
fold_is xs h = folds_in (suc (weight xs)) xs h (omega arith)

pub folds_to : (xs ys : List Fraction) → AllByRecursion Reduced xs → FoldsTo xs ys → ys ≡ fold_of xs
folds_to xs ys h f = fold_one xs ys (fold_of xs) h f (fold_is xs h)

folds_shorter : (k : ℕ) (xs : List Fraction) → length (fold_in k xs) ≤ length xs
unfolding fold_in
folds_shorter zero xs = omega arith
folds_shorter (suc k) xs = go (first_join_of xs) refl (folds_shorter k)
  where
    strip : (o : Option Strip) → ((ys : List Fraction) → length (fold_in k ys) ≤ length ys) → length {A = Fraction} (elim o [ Some t ↦ fold_in k (tidy_of (stripped_by t xs)) | None ↦ xs ]) ≤ length xs
    strip (Some t) r = omega (arith, r (tidy_of (stripped_by t xs)), tidy_length (stripped_by t xs), length-set xs t.at t.left)
    strip None r = omega arith

    go : (o : Option Pair) → first_join_of xs ≡ o → ((ys : List Fraction) → length (fold_in k ys) ≤ length ys) → length {A = Fraction} (elim o [ Some t ↦ fold_in k (tidy_of (joined_by t xs)) | None ↦ elim (first_strip_of xs) [ Some t ↦ fold_in k (tidy_of (stripped_by t xs)) | None ↦ xs ] ]) ≤ length xs
    go (Some t) e r =
        let ys = set xs t.left t.join in
        let f = first_join xs t e in
        omega (arith, r (tidy_of (joined_by t xs)), tidy_length (joined_by t xs), length-remove ys t.right (omega (arith, length-set xs t.left t.join, f.within)), length-set xs t.left t.join)
    go None e r = strip (first_strip_of xs) r

pub fold_shorter : (xs : List Fraction) → length (fold_of xs) ≤ length xs
unfolding fold_of
fold_shorter xs = folds_shorter (suc (weight xs)) xs
