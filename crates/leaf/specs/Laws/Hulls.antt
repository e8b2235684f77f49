-- The window round two windows: what a kind needs to show that its join is lawful.
use Rattle.std.proofs.Common.{◌≡◌, true, false, ◌&&◌, ◌⊎◌, Some, None, Option, sym, refl, ap, ◌∙◌, subst, inl, inr}
use Rattle.std.proofs.lemmas.Bool.{and_from, and_parts, cases_Bool, cond_both, true≢false, false≢true}
use Rattle.leaf.specs.Kind.{Higher, Joins, Kind, Lawful, Lower, ext_le, from, higher_of, is_bound, is_value_window, lower_of, same_rule, upto}

module _ {V L : Type 0} (k : Kind V L)
    (total : (a b : V) → k.le a b ≡ false → k.le b a ≡ true)
    (trans : (a b c : V) → k.le a b ≡ true → k.le b c ≡ true → k.le a c ≡ true) where
  le_refl : (a : V) → k.le a a ≡ true
  le_refl a = go (cases_Bool (k.le a a))
    where
      go : (k.le a a ≡ true) ⊎ (k.le a a ≡ false) → k.le a a ≡ true
      go (inl t) = t
      go (inr f) = total a a f

  low_refl : (a : Option V) → ext_le k.le (from a) (from a) ≡ true
  low_refl None = refl
  low_refl (Some x) = le_refl x

  high_refl : (a : Option V) → ext_le k.le (upto a) (upto a) ≡ true
  high_refl None = refl
  high_refl (Some x) = le_refl x

  low_total : (a b : Option V) → ext_le k.le (from a) (from b) ≡ false → ext_le k.le (from b) (from a) ≡ true
  low_total None b h = absurd (true≢false h)
  low_total (Some x) None h = refl
  low_total (Some x) (Some y) h = total x y h

  high_total : (a b : Option V) → ext_le k.le (upto a) (upto b) ≡ false → ext_le k.le (upto b) (upto a) ≡ true
  high_total None None h = absurd (true≢false h)
  high_total None (Some y) h = refl
  high_total (Some x) None h = absurd (true≢false h)
  high_total (Some x) (Some y) h = total x y h

  pub lower : (a b : Option V) → Lower k (lower_of k.le a b) a b
  lower a b = cond_both (ext_le k.le (from a) (from b)) a b (λ r. Lower k r a b) (λ t. (low_refl a, t, inl refl)) (λ f. (low_total a b f, low_refl b, inr refl))

  pub higher : (a b : Option V) → Higher k (higher_of k.le a b) a b
  higher a b = cond_both (ext_le k.le (upto a) (upto b)) b a (λ r. Higher k r a b) (λ t. (t, high_refl b, inr refl)) (λ f. (high_refl a, high_total a b f, inl refl))

  -- a window whose minimum falls and whose maximum rises
  wider : (a b c d : Option V) → ext_le k.le (from c) (from a) ≡ true → ext_le k.le (upto b) (upto d) ≡ true → ext_le k.le (from a) (upto b) ≡ true → ext_le k.le (from c) (upto d) ≡ true
  wider a b None d p q w = refl
  wider None b (Some z) d p q w = absurd (false≢true p)
  wider (Some x) b (Some z) None p q w = refl
  wider (Some x) None (Some z) (Some u) p q w = absurd (false≢true q)
  wider (Some x) (Some y) (Some z) (Some u) p q w = trans z x u p (trans x y u w q)

  one_of : (r a b : Option V) → (r ≡ a) ⊎ (r ≡ b) → is_bound k a ≡ true → is_bound k b ≡ true → is_bound k r ≡ true
  one_of r a b (inl e) p q = ap (is_bound k) e ∙ p
  one_of r a b (inr e) p q = ap (is_bound k) e ∙ q

  pub hull_window : (a b c d : Option V) → is_value_window k a b ≡ true → is_value_window k c d ≡ true → is_value_window k (lower_of k.le a c) (higher_of k.le b d) ≡ true
  hull_window a b c d p q =
      let x = lower_of k.le a c in
      let y = higher_of k.le b d in
      let u = and_parts (is_bound k a) (is_bound k b && ext_le k.le (from a) (upto b)) p in
      let w = and_parts (is_bound k b) (ext_le k.le (from a) (upto b)) u.1 in
      let s = and_parts (is_bound k c) (is_bound k d && ext_le k.le (from c) (upto d)) q in
      let t = and_parts (is_bound k d) (ext_le k.le (from c) (upto d)) s.1 in
      let l = lower a c in
      let h = higher b d in
      and_from (is_bound k x) (is_bound k y && ext_le k.le (from x) (upto y)) (one_of x a c l.2 u.0 s.0)
      (and_from (is_bound k y) (ext_le k.le (from x) (upto y)) (one_of y b d h.2 w.0 t.0) (wider a b x y l.0 h.0 w.1))

  -- a leaf of the rule of a, in the window round both
  pub joins_hull : (a b r : L) → Lawful k r → same_rule k a r ≡ true → k.minimum r ≡ lower_of k.le (k.minimum a) (k.minimum b) → k.maximum r ≡ higher_of k.le (k.maximum a) (k.maximum b) → Joins k a b r
  joins_hull a b r p s l h = record {
    lawful = p;
    rule = s;
    minimum = subst (λ (x : Option V). Lower k x (k.minimum a) (k.minimum b)) (sym l) (lower (k.minimum a) (k.minimum b));
    maximum = subst (λ (x : Option V). Higher k x (k.maximum a) (k.maximum b)) (sym h) (higher (k.maximum a) (k.maximum b));
  }
