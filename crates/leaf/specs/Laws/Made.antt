-- What a window as written comes to where nothing is refused of it.
use Rattle.std.proofs.Common.{◌≡◌, ℕ, true, cond, ◌&&◌, Some, None, Ok, Err, Option, Result, refl, sym, ap, ◌∙◌, subst, arith}
use Rattle.std.proofs.lemmas.Bool.{and_from, cond_both}
use Rattle.leaf.specs.declared.bounds.Bounds.{Bounds}
use Rattle.faults.specs.Faults.{Refused, then, unplaced}
use Rattle.leaf.specs.Kind.{Kind, is_bound, is_value_window, is_window_of}
use Rattle.leaf.specs.Windows.{bound, valued, window_of, written}

module _ {W V L : Type 0} (k : Kind V L) (value : W → Option V) (some : (w : W) (v : V) → value w ≡ Some v → k.is_value v ≡ true) where
  bound_is : (w : Option W) (o : Option V) → Ok o ≡ bound value w → (is_bound k o ≡ true) × (o ≡ written value w)
  bound_is None o = λ e. let n : o ≡ None = cc in (ap (is_bound k) n, n)
  bound_is (Some w) o = go (value w) refl
    where
      go : (v : Option V) → value w ≡ v → Ok o ≡ valued v → (is_bound k o ≡ true) × (o ≡ v)
      go None q e = absurd (let z : ◌≡◌ {A = ℕ} 0 1 = cc in omega arith)
      go (Some x) q e = let n : o ≡ Some x = cc in (ap (is_bound k) n ∙ some w x q, n)

  -- bounds of the kind, and what was written
  pub record Made (low high : Option W) (b : Bounds V) : Type 0 where
    pub window : is_value_window k b.minimum b.maximum ≡ true
    pub minimum : b.minimum ≡ written value low
    pub maximum : b.maximum ≡ written value high

  pub window_made : (low high : Option W) (b : Bounds V) → Ok b ≡ window_of value k.le low high → Made low high b
  window_made low high b = lows (bound value low) refl
    where
      inside : (l h : Option V) → Ok l ≡ bound value low → Ok h ≡ bound value high → is_window_of k.le l h ≡ true → ◌≡◌ {A = Result (Bounds V) Refused} (Ok b) (Ok (record { minimum = l; maximum = h })) → Made low high b
      inside l h p q t e =
          let n : b ≡ record { minimum = l; maximum = h } = cc in
          let x = bound_is low l p in
          let y = bound_is high h q in
          subst (Made low high) (sym n)
          (record {
            window = and_from (is_bound k l) (is_bound k h && is_window_of k.le l h) x.0 (and_from (is_bound k h) (is_window_of k.le l h) y.0 t);
            minimum = x.1;
            maximum = y.1;
          })

      highs : (l : Option V) → Ok l ≡ bound value low → (r : Result (Option V) Refused) → bound value high ≡ r → ◌≡◌ {A = Result (Bounds V) Refused} (Ok b) (then r (λ h. cond (is_window_of k.le l h) (Ok (record { minimum = l; maximum = h })) (Err (unplaced 8)))) → Made low high b
      highs l p (Err f) q = λ e. absurd (let z : ◌≡◌ {A = ℕ} 0 1 = cc in omega arith)
      highs l p (Ok h) q =
          cond_both (is_window_of k.le l h) (Ok (record { minimum = l; maximum = h })) (Err (unplaced 8)) (λ (r : Result (Bounds V) Refused). Ok b ≡ r → Made low high b)
          (λ t e. inside l h p (sym q) t e) (λ _ e. absurd (let z : ◌≡◌ {A = ℕ} 0 1 = cc in omega arith))

      lows : (r : Result (Option V) Refused) → bound value low ≡ r → ◌≡◌ {A = Result (Bounds V) Refused} (Ok b) (then r (λ l. then (bound value high) (λ h. cond (is_window_of k.le l h) (Ok (record { minimum = l; maximum = h })) (Err (unplaced 8))))) → Made low high b
      lows (Err f) q e = absurd (let z : ◌≡◌ {A = ℕ} 0 1 = cc in omega arith)
      lows (Ok l) q e = highs l (sym q) (bound value high) refl e
