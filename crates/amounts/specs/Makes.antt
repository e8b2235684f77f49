-- The leaf of bounds and divisors as written: which one it is, that it is lawful, and what it means.
use Rattle.std.specs.Prelude.{◌≡◌, true, ◌&&◌, List, ℤ, Some, None, Option}
use Rattle.std.proofs.Common.{ap, ◌∙◌}
use Rattle.std.proofs.lemmas.Bool.{and_from, and_parts}
use Rattle.divisors.specs.declared.fraction.Fraction.{Fraction}
use Rattle.divisors.specs.declared.row.Row.{Row}
use Rattle.divisors.specs.Dividing.{thinned}
use Rattle.divisors.specs.Lawful.{kept_laws}
use Rattle.divisors.specs.Rows.{fractions, is_folded, is_thinned, padded, row_of}
use Rattle.divisors.specs.Settled.{settled}
use Rattle.divisors.specs.Written.{FoldOf, ThinOf}
use Rattle.leaf.specs.Kind.{Lawful, is_value_window}
use Rattle.amounts.specs.declared.amount_leaf.AmountLeaf.{AmountLeaf}
use Rattle.amounts.specs.Amounts.{amounts}
use Rattle.amounts.specs.Leaves.{is_bound, is_window, leaf_of}
use Rattle.amounts.specs.Meaning.{Means}
use Rattle.amounts.specs.Means.{leaf_means}

abbrev with_rows : Option ℤ → Option ℤ → Row → Row → AmountLeaf
with_rows low high r s = record { bounds = record { minimum = low; maximum = high }; required = r; barred = s }

pub lawful_leaf : (low high : Option ℤ) (r s : Row) → is_value_window amounts low high ≡ true → is_folded r ≡ true → is_thinned s ≡ true → Lawful amounts (with_rows low high r s)
lawful_leaf low high r s w f t =
    let u = and_parts (is_bound low) (is_bound high && is_window low high) (bounds low high w) in
    let v = and_parts (is_bound high) (is_window low high) u.1 in
    and_from (is_bound low) (is_bound high && (is_window low high && (is_folded r && is_thinned s))) u.0
    (and_from (is_bound high) (is_window low high && (is_folded r && is_thinned s)) v.0
    (and_from (is_window low high) (is_folded r && is_thinned s) v.1 (and_from (is_folded r) (is_thinned s) f t)))
  where
    -- bounds of the kind are bounds here
    bounds : (a b : Option ℤ) → is_value_window amounts a b ≡ true → (is_bound a && (is_bound b && is_window a b)) ≡ true
    bounds None None h = h
    bounds None (Some y) h = h
    bounds (Some x) None h = h
    bounds (Some x) (Some y) h = h

pub made_leaf :
    (low high : Option ℤ) (ws us : List Fraction) (r s : Row) → FoldOf ws (fractions r) → ThinOf us (fractions s) → is_folded r ≡ true → is_thinned s ≡ true →
    record {
      value : with_rows low high r s ≡ leaf_of low high ws us;
      sound : is_value_window amounts low high ≡ true → Lawful amounts (with_rows low high r s);
      means : Means low high ws us (with_rows low high r s);
    }
made_leaf low high ws us r s folds thins f t =
    let x = kept_laws.row r (and_parts (padded r) (settled (fractions r)) f).0 ∙ ap row_of folds.value in
    let y = kept_laws.row s (and_parts (padded s) (thinned (fractions s)) t).0 ∙ ap row_of thins.value in
    record {
      value = λ i. with_rows low high (x i) (y i);
      sound = λ w. lawful_leaf low high r s w f t;
      means = leaf_means (with_rows low high r s) ws us folds thins;
    }
