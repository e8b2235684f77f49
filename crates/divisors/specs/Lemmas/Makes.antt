-- What the makers promise: lowest terms, folded lists, thinned lists, of all integers.
use Rattle.std.proofs.Common.{◌≡◌, ◌/◌, ◌≤◌, true, cond, ◌↔◌, Contains, List, length, leb, map, None, Some, arith, nat_abs, sym, refl, ap, ◌∙◌, subst}
use Rattle.std.specs.List.{AllByRecursion}
use Rattle.divisors.specs.declared.fraction.Fraction.{Fraction}
use Rattle.divisors.specs.Dividing.{thinned, thin_of}
use Rattle.divisors.specs.Folding.{FoldsTo, NoJoin, NoStrip, done, fold_of, stepped}
use Rattle.divisors.specs.Fractions.{LowestTerms, MultipleOf, in_range, reduce_of}
use Rattle.divisors.specs.Lists.{ascends, tidy_of}
use Rattle.divisors.specs.Settled.{settled}
use Rattle.divisors.specs.Whole.{IsGcd, gcd_of}
use Rattle.divisors.specs.Written.{FoldOf, IsUndivided, ThinOf, are_in_range, barred_of, lowest_above, over_integers, refusal_of, required_of}
use Rattle.divisors.specs.Lemmas.Fills.{all_in_range, in_range_lem}
use Rattle.divisors.specs.Lemmas.Folds.{fold_is, folds_to}
use Rattle.divisors.specs.Lemmas.Gcds.{gcd_is, parts_coprime, quotients_cross}
use Rattle.divisors.specs.Lemmas.Kept.{barred_spares, barred_thinned, integers_reduced, integers_tidy, positive, reduce_all, reduce_multiple, reduce_reduced, required_admits, required_settled}
use Rattle.divisors.specs.Lemmas.Settles.{step_rises}
use Rattle.divisors.specs.Lemmas.Undivided.{thin_members, thin_rises}
use Rattle.divisors.specs.Laws.{KeptLaws}
use Rattle.divisors.specs.Rows.{fractions, padded, row_of}
use Rattle.divisors.specs.Lemmas.Again.{barred_same, required_same}
use Rattle.divisors.specs.Lemmas.Firsts.{clash}
use Rattle.divisors.specs.Lemmas.Lengths.{barred_length, required_length}
use Rattle.divisors.specs.Lemmas.Rows.{row_fractions, row_of_lem, row_padded}
use Rattle.faults.specs.Faults.{unplaced}
use Rattle.std.proofs.lemmas.Bool.{and_from, cond_both, leb-true}
use Rattle.divisors.specs.Lemmas.Signs.{admits_of, multiple_of, spares_of}

pub lowest : (f : Fraction) → in_range f ≡ true → LowestTerms f (reduce_of f)
lowest f e =
    let r = in_range_lem f e in
    let g = gcd_of f.p f.q in
    record {
      value = refl;
      size = quotients_cross f.p f.q g (gcd_is f.p f.q).left (gcd_is f.p f.q).right;
      reduced = reduce_reduced f r;
      coprime = subst (IsGcd (f.p / g) (f.q / g)) (parts_coprime f.p f.q r.p_low) (gcd_is (f.p / g) (f.q / g));
      multiples =
          λ v.
          let a = multiple_of (reduce_of f) v in
          let b = multiple_of f v in
          let w = reduce_multiple f (nat_abs v) r in
          (λ m. b.1 (w.0 (a.0 m)), λ m. a.1 (w.1 (b.0 m)));
    }

fold_ends : (xs ys : List Fraction) → FoldsTo xs ys → ascends xs ≡ true → (ascends ys ≡ true) × NoJoin ys × NoStrip ys
fold_ends xs ys (done n m) a = (a, n, m)
fold_ends xs ys (stepped {ys = zs} s r) a = fold_ends zs ys r (step_rises xs zs s)

pub fold_of_lem : (ws xs : List Fraction) → are_in_range ws ≡ true → FoldsTo (over_integers ws) xs → FoldOf ws xs
unfolding required_of
fold_of_lem ws xs e f =
    let h = all_in_range ws e in
    let value = folds_to (over_integers ws) xs (integers_reduced ws h) f in
    let filled = integers_tidy ws h in
    let ends = fold_ends (over_integers ws) xs f filled.rising in
    record {
      filled = filled;
      steps = f;
      rising = ends.0;
      joinless = ends.1;
      stripless = ends.2;
      value = value;
      admits =
          λ v.
          let a = admits_of (required_of ws) v in
          let b = admits_of ws v in
          let w = required_admits ws (nat_abs v) h in
          subst (λ (ys : List Fraction). (AllByRecursion (λ f. MultipleOf f v) ys) ↔ (AllByRecursion (λ f. MultipleOf f v) ws)) (sym value)
          (λ m. b.1 (w.0 (a.0 m)), λ m. a.1 (w.1 (b.0 m)));
    }

pub thin_of_lem : (ws xs : List Fraction) → are_in_range ws ≡ true → xs ≡ thin_of (tidy_of (lowest_above 0 ws)) → ThinOf ws xs
unfolding barred_of
thin_of_lem ws xs e f =
    let h = all_in_range ws e in
    let value : xs ≡ barred_of ws = f ∙ ap (λ (ys : List Fraction). thin_of (tidy_of ys)) (positive ws h) in
    let rs = map reduce_of ws in
    record {
      rising = subst (λ (ys : List Fraction). ascends ys ≡ true) (sym value) (thin_rises (tidy_of rs) (barred_thinned ws h));
      members = λ x. subst (λ (ys : List Fraction). (Contains ys x) ↔ IsUndivided rs x) (sym value) (thin_members rs (reduce_all ws h) x);
      value = value;
      spares =
          λ v.
          let a = spares_of (barred_of ws) v in
          let b = spares_of ws v in
          let w = barred_spares ws (nat_abs v) h in
          subst (λ (ys : List Fraction). (AllByRecursion (λ f. MultipleOf f v → ⊥) ys) ↔ (AllByRecursion (λ f. MultipleOf f v → ⊥) ws)) (sym value)
          (λ m. b.1 (w.0 (a.0 m)), λ m. a.1 (w.1 (b.0 m)));
    }

pub fold_settles : (ws xs : List Fraction) → are_in_range ws ≡ true → FoldOf ws xs → settled xs ≡ true
fold_settles ws xs e f = subst (λ (ys : List Fraction). settled ys ≡ true) (sym f.value) (required_settled ws (all_in_range ws e))

pub thin_thins : (ws xs : List Fraction) → are_in_range ws ≡ true → ThinOf ws xs → thinned xs ≡ true
thin_thins ws xs e f = subst (λ (ys : List Fraction). thinned ys ≡ true) (sym f.value) (barred_thinned ws (all_in_range ws e))

-- nothing is refused: the parts are in range, and there are at most six
taken : (ws : List Fraction) → refusal_of ws ≡ None → (are_in_range ws ≡ true) × (length ws ≤ 6)
taken ws =
    cond_both (are_in_range ws) (cond (leb (length ws) 6) None (Some (unplaced 6))) (Some (unplaced 5)) (λ o. o ≡ None → (are_in_range ws ≡ true) × (length ws ≤ 6))
    (λ r.
    cond_both (leb (length ws) 6) None (Some (unplaced 6)) (λ o. o ≡ None → (are_in_range ws ≡ true) × (length ws ≤ 6))
    (λ l _. (r, leb-true (length ws) 6 l)) (λ _ e. absurd (clash None (unplaced 6) refl (sym e))))
    (λ _ e. absurd (clash None (unplaced 5) refl (sym e)))

pub kept_laws : KeptLaws
unfolding required_of barred_of
kept_laws =
    record {
      folds = folds;
      thins = thins;
      folded = λ ws h.
          let xs = required_of ws in
          let r = row_of xs in
          let t = taken ws h in
          and_from (padded r) (settled (fractions r)) (row_padded xs (omega (arith, required_length ws, t.1)))
          (ap settled (row_fractions xs) ∙ fold_settles ws xs t.0 (folds ws t.0));
      thinned = λ ws h.
          let xs = barred_of ws in
          let r = row_of xs in
          let t = taken ws h in
          and_from (padded r) (thinned (fractions r)) (row_padded xs (omega (arith, barred_length ws, t.1)))
          (ap thinned (row_fractions xs) ∙ thin_thins ws xs t.0 (thins ws t.0));
      folded_again = required_same;
      thinned_again = barred_same;
      list = row_fractions;
      row = λ r h. row_of_lem r (fractions r) h refl;
    }
  where
    folds : (ws : List Fraction) → are_in_range ws ≡ true → FoldOf ws (required_of ws)
    folds ws e =
        let xs = over_integers ws in
        fold_of_lem ws (fold_of xs) e (fold_is xs (integers_reduced ws (all_in_range ws e)))

    thins : (ws : List Fraction) → are_in_range ws ≡ true → ThinOf ws (barred_of ws)
    thins ws e =
        thin_of_lem ws (barred_of ws) e (ap (λ (ys : List Fraction). thin_of (tidy_of ys)) (sym (positive ws (all_in_range ws e))))
