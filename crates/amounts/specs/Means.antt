-- A leaf admits what its bounds and its divisors as written mean.
use Rattle.std.specs.Prelude.{◌≡◌, ℕ, ◌&&◌, List, ℤ, ◌≤ℤ◌, Some, None, Decides, Option, int_le, unsigned_abs, refl}
use Rattle.std.proofs.Common.{subst, arith}
use Rattle.std.proofs.lemmas.Bool.{and_from, and_parts}
use Rattle.divisors.specs.declared.fraction.Fraction.{Fraction}
use Rattle.divisors.specs.Written.{FoldOf, ThinOf}
use Rattle.leaf.specs.Kind.Ext.{value}
use Rattle.leaf.specs.Kind.{ext_le, from, upto}
use Rattle.amounts.specs.declared.amount_leaf.AmountLeaf.{AmountLeaf}
use Rattle.amounts.specs.Leaves.{barred, required}
use Rattle.amounts.specs.Meaning.{Means}
use Rattle.amounts.specs.Rules.{admitted}
use Rattle.amounts.specs.Values.{is_amount}
use Rattle.amounts.specs.Nexts.{le_of, of_le}
use Rattle.amounts.specs.RulesLemmas.{admitted_means}

low_of : (l : Option ℤ) (v : ℤ) → Decides (ext_le int_le (from l) (value v)) ((x : ℤ) → l ≡ Some x → x ≤ℤ v)
low_of None v = (λ _ x e. let z : ◌≡◌ {A = ℕ} 0 1 = cc in absurd (omega arith), λ _. refl)
low_of (Some u) v = (λ h x e. let k : u ≡ x = cc in subst (λ (y : ℤ). y ≤ℤ v) k (le_of u v h), λ f. of_le u v (f u refl))

high_of : (h : Option ℤ) (v : ℤ) → Decides (ext_le int_le (value v) (upto h)) ((y : ℤ) → h ≡ Some y → v ≤ℤ y)
high_of None v = (λ _ x e. let z : ◌≡◌ {A = ℕ} 0 1 = cc in absurd (omega arith), λ _. refl)
high_of (Some u) v = (λ h x e. let k : u ≡ x = cc in subst (λ (y : ℤ). v ≤ℤ y) k (le_of v u h), λ f. of_le v u (f u refl))

pub leaf_means : (a : AmountLeaf) (ws us : List Fraction) → FoldOf ws (required a) → ThinOf us (barred a) → Means a.bounds.minimum a.bounds.maximum ws us a
leaf_means a ws us folds thins v f =
    let low = ext_le int_le (from a.bounds.minimum) (value v) in
    let high = ext_le int_le (value v) (upto a.bounds.maximum) in
    let rule = admitted (required a) (barred a) (unsigned_abs v) in
    let m = admitted_means (required a) (barred a) v in (
      λ t.
          let x = and_parts low (high && (is_amount v && rule)) t in
          let y = and_parts high (is_amount v && rule) x.1 in
          let z = and_parts (is_amount v) rule y.1 in
          let k = m.0 z.1 in
          record {
            minimum = (low_of a.bounds.minimum v).0 x.0;
            maximum = (high_of a.bounds.maximum v).0 y.0;
            multiple = (folds.admits v).0 k.0;
            spared = (thins.spares v).0 k.1;
          },
      λ w.
          and_from low (high && (is_amount v && rule)) ((low_of a.bounds.minimum v).1 w.minimum)
          (and_from high (is_amount v && rule) ((high_of a.bounds.maximum v).1 w.maximum)
          (and_from (is_amount v) rule f (m.1 ((folds.admits v).1 w.multiple, (thins.spares v).1 w.spared)))),
    )
