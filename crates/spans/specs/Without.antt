-- A kind without a day shows the laws that the kind below shows.
use Rattle.std.specs.Prelude.{◌≡◌, ℕ, Bool, true, false, not, ◌&&◌, ◌⊎◌, Some, None, Option, ◌≢◌, nat_le, refl}
use Rattle.std.proofs.Common.{sym, ap, subst, ◌∙◌, inl, inr, arith}
use Rattle.std.proofs.lemmas.Bool.{and_from, and_parts, both_ways, cases_Bool, cond_both, eq-eqb, eqb-true, le-leb, leb-false, leb-true, true≢false, false≢true}
use Rattle.leaf.specs.Kind.{Kind, Laws, Lawful, ext_le, from, same_rule}
use Rattle.leaf.specs.Laws.Judging.{no_layout_laws}
use Rattle.spans.specs.declared.closed.Closed.{Closed}
use Rattle.spans.specs.Closed.{closed, closed_on, is_shut, open_next, pair_le, part_of}
use Rattle.spans.specs.Pairs.{pair_from, pair_parts, pair_tie, pair_total}

abbrev day_le : Option ℕ → Option ℕ → Bool
day_le c d = ext_le nat_le (from c) (from d)

day_total : (c d : Option ℕ) → day_le c d ≡ false → day_le d c ≡ true
day_total None d h = absurd (true≢false h)
day_total (Some x) None h = refl
day_total (Some x) (Some y) h = le-leb y x (omega (arith, leb-false x y h))

day_trans : (c d e : Option ℕ) → day_le c d ≡ true → day_le d e ≡ true → day_le c e ≡ true
day_trans None d e h i = refl
day_trans (Some x) None e h i = absurd (false≢true h)
day_trans (Some x) (Some y) None h i = absurd (false≢true i)
day_trans (Some x) (Some y) (Some z) h i = le-leb x z (omega (arith, leb-true x y h, leb-true y z i))

day_anti : (c d : Option ℕ) → day_le c d ≡ true → day_le d c ≡ true → c ≡ d
day_anti None None h i = refl
day_anti None (Some y) h i = absurd (false≢true i)
day_anti (Some x) None h i = absurd (false≢true h)
day_anti (Some x) (Some y) h i = let e : x ≡ y = omega (arith, leb-true x y h, leb-true y x i) in ap Some e

day_refl : (c : Option ℕ) → day_le c c ≡ true
day_refl None = refl
day_refl (Some x) = le-leb x x (omega arith)

-- to be part of
part_refl : (c : Option ℕ) → part_of c c ≡ true
part_refl None = refl
part_refl (Some x) = eq-eqb x x refl

some_is : {v w : ℕ} → ◌≡◌ {A = Option ℕ} (Some v) (Some w) → v ≡ w
some_is {v} {w} e = cc

none_is : {v : ℕ} → ◌≡◌ {A = Option ℕ} None (Some v) → ⊥
none_is {v} e = let z : ◌≡◌ {A = ℕ} 0 1 = cc in omega arith

shut_is : (c : Option ℕ) (v : ℕ) → is_shut c v ≡ true → c ≡ Some v
shut_is None v h = absurd (false≢true h)
shut_is (Some d) v h = ap Some (eqb-true d v h)

part_shuts : (c d : Option ℕ) (v : ℕ) → part_of c d ≡ true → is_shut c v ≡ true → is_shut d v ≡ true
part_shuts None d v h i = absurd (false≢true i)
part_shuts (Some x) d v h i = subst (λ (w : ℕ). is_shut d w ≡ true) (eqb-true x v i) h

part_trans : (c d e : Option ℕ) → part_of c d ≡ true → part_of d e ≡ true → part_of c e ≡ true
part_trans None d e h i = refl
part_trans (Some x) d e h i = part_shuts d e x i h

part_anti : (c d : Option ℕ) → part_of c d ≡ true → part_of d c ≡ true → c ≡ d
part_anti None None h i = refl
part_anti None (Some y) h i = absurd (false≢true i)
part_anti (Some x) d h i = sym (shut_is d x h)

not_shut : (b : Bool) → not b ≡ true → b ≡ false
not_shut true h = absurd (false≢true h)
not_shut false h = refl

-- what a part leaves open
part_open : (c d : Option ℕ) (v : ℕ) → part_of c d ≡ true → not (is_shut d v) ≡ true → not (is_shut c v) ≡ true
part_open c d v h i = go (cases_Bool (is_shut c v))
  where
    go : (is_shut c v ≡ true) ⊎ (is_shut c v ≡ false) → not (is_shut c v) ≡ true
    go (inl t) = absurd (both_ways (is_shut d v) (not_shut (is_shut d v) i) (part_shuts c d v h t))
    go (inr f) = ap not f

module _ {L : Type 0} (k : Kind ℕ L) (laws : Laws k) where
  abbrev Leaf : Type 0
  Leaf = Closed L

  -- tied rules: those below tie, and the closings are equal
  tie : (a b : Leaf) → same_rule (closed k) a b ≡ true → (same_rule k a.below b.below ≡ true) × (a.closing.day ≡ b.closing.day)
  tie a b h =
      let t = pair_tie (k.rule_le a.below b.below) (k.rule_le b.below a.below) (day_le a.closing.day b.closing.day) (day_le b.closing.day a.closing.day) h in
      let d = and_parts (day_le a.closing.day b.closing.day) (day_le b.closing.day a.closing.day) t.1 in
      (t.0, day_anti a.closing.day b.closing.day d.0 d.1)

  tied : (a b : Leaf) → same_rule k a.below b.below ≡ true → a.closing.day ≡ b.closing.day → same_rule (closed k) a b ≡ true
  tied a b h e =
      let r = k.rule_le a.below b.below in
      let r' = k.rule_le b.below a.below in
      let c = a.closing.day in
      let d = b.closing.day in
      let t = and_parts r r' h in
      and_from (pair_le r r' (day_le c d)) (pair_le r' r (day_le d c))
      (pair_from r r' (day_le c d) t.0 (λ _. subst (λ (z : Option ℕ). day_le c z ≡ true) e (day_refl c)))
      (pair_from r' r (day_le d c) t.1 (λ _. subst (λ (z : Option ℕ). day_le z c ≡ true) e (day_refl c)))

  rule_trans : (a b c : Leaf) → Lawful k a.below → Lawful k b.below → Lawful k c.below → (closed k).rule_le a b ≡ true → (closed k).rule_le b c ≡ true → (closed k).rule_le a c ≡ true
  rule_trans a b c p q r h i =
      let x = a.below in
      let y = b.below in
      let z = c.below in
      let s = pair_parts (k.rule_le x y) (k.rule_le y x) (day_le a.closing.day b.closing.day) h in
      let t = pair_parts (k.rule_le y z) (k.rule_le z y) (day_le b.closing.day c.closing.day) i in
      pair_from (k.rule_le x z) (k.rule_le z x) (day_le a.closing.day c.closing.day) (laws.rule_trans x y z p q r s.0 t.0)
      (λ w. day_trans a.closing.day b.closing.day c.closing.day (s.1 (laws.rule_trans y z x q r p t.0 w)) (t.1 (laws.rule_trans z x y r p q w s.0)))

  -- a value is not above itself
  strict : (v w : ℕ) → k.le w v ≡ false → v ≢ w
  strict v w h e = let f : k.le v v ≡ false = ap (λ (z : ℕ). k.le z v) e ∙ h in both_ways (k.le v v) f (laws.le_total v v f)

  -- a grid value that is open, asked about below
  opened : (c : Option ℕ) (x : L) (v : ℕ) → (not (is_shut c v) && k.on_grid x v) ≡ true → (is_shut c v ≡ false) × (k.on_grid x v ≡ true)
  opened c x v h = let t = and_parts (not (is_shut c v)) (k.on_grid x v) h in (not_shut (is_shut c v) t.0, t.1)

  apart : (c : Option ℕ) (v w : ℕ) → is_shut c w ≡ true → is_shut c v ≡ false → v ≢ w
  apart c v w s o e = both_ways (is_shut c v) o (ap (is_shut c) e ∙ s)

  -- an open value above v is above the closing day that comes next
  past : (x : L) (c : Option ℕ) (v w u : ℕ) → Lawful k x → k.is_value v ≡ true → k.next_on_grid x v ≡ Some w → is_shut c w ≡ true → is_shut c u ≡ false → k.on_grid x u ≡ true → k.le u v ≡ false → k.le u w ≡ false
  past x c v w u p q e s o g h = go (cases_Bool (k.le u w))
    where
      go : (k.le u w ≡ true) ⊎ (k.le u w ≡ false) → k.le u w ≡ false
      go (inl t) = absurd (apart c u w s o (laws.le_anti u w t (laws.next_least x v w u p q e g h)))
      go (inr f) = f

  shut_above : (v w z : ℕ) → k.le w v ≡ false → k.le z w ≡ false → k.le z v ≡ false
  shut_above v w z h i = go (cases_Bool (k.le z v))
    where
      go : (k.le z v ≡ true) ⊎ (k.le z v ≡ false) → k.le z v ≡ false
      go (inl t) = absurd (both_ways (k.le z w) i (laws.le_trans z v w t (laws.le_total w v h)))
      go (inr f) = f

  module _ (x : L) (c : Option ℕ) (p : Lawful k x) where
    next_grid : (v z : ℕ) → k.is_value v ≡ true → (n : Option ℕ) → k.next_on_grid x v ≡ n → open_next (k.next_on_grid x) c n ≡ Some z → ((not (is_shut c z) && k.on_grid x z) ≡ true) × (k.le z v ≡ false)
    next_grid v z q None d = λ e. absurd (none_is e)
    next_grid v z q (Some w) d =
        let b = laws.next_grid x v w p q d in
        cond_both (is_shut c w) (k.next_on_grid x w) (Some w) (λ o. o ≡ Some z → ((not (is_shut c z) && k.on_grid x z) ≡ true) × (k.le z v ≡ false))
        (λ s e.
        let a = laws.next_grid x w z p (laws.grid_value x w p b.0) e in
        let o : is_shut c z ≡ false = open_after s a.1 in
        (and_from (not (is_shut c z)) (k.on_grid x z) (ap not o) a.0, shut_above v w z b.1 a.1))
        (λ s e.
        let i : w ≡ z = cc in
        (and_from (not (is_shut c z)) (k.on_grid x z) (ap not (ap (is_shut c) (sym i) ∙ s)) (subst (λ (u : ℕ). k.on_grid x u ≡ true) i b.0), subst (λ (u : ℕ). k.le u v ≡ false) i b.1))
      where
        open_after : {w z : ℕ} → is_shut c w ≡ true → k.le z w ≡ false → is_shut c z ≡ false
        open_after {w} {z} s h = go (cases_Bool (is_shut c z))
          where
            go : (is_shut c z ≡ true) ⊎ (is_shut c z ≡ false) → is_shut c z ≡ false
            go (inl t) = let e : w ≡ z = some_is (sym (shut_is c w s) ∙ shut_is c z t) in absurd (strict w z h e)
            go (inr f) = f

    next_least : (v z u : ℕ) → k.is_value v ≡ true → is_shut c u ≡ false → k.on_grid x u ≡ true → k.le u v ≡ false → (n : Option ℕ) → k.next_on_grid x v ≡ n → open_next (k.next_on_grid x) c n ≡ Some z → k.le z u ≡ true
    next_least v z u q o g h None d = λ e. absurd (none_is e)
    next_least v z u q o g h (Some w) d =
        cond_both (is_shut c w) (k.next_on_grid x w) (Some w) (λ r. r ≡ Some z → k.le z u ≡ true)
        (λ s e. laws.next_least x w z u p (laws.grid_value x w p (laws.next_grid x v w p q d).0) e g (past x c v w u p q d s o g h))
        (λ s e. let i : w ≡ z = cc in subst (λ (y : ℕ). k.le y u ≡ true) i (laws.next_least x v w u p q d g h))

    next_none : (v u : ℕ) → k.is_value v ≡ true → is_shut c u ≡ false → k.on_grid x u ≡ true → (n : Option ℕ) → k.next_on_grid x v ≡ n → open_next (k.next_on_grid x) c n ≡ None → k.le u v ≡ true
    next_none v u q o g None d = λ _. laws.next_none x v u p q d g
    next_none v u q o g (Some w) d =
        cond_both (is_shut c w) (k.next_on_grid x w) (Some w) (λ r. r ≡ None → k.le u v ≡ true)
        (λ s e.
        let b = laws.next_none x w u p (laws.grid_value x w p (laws.next_grid x v w p q d).0) e g in
        upto s b (cases_Bool (k.le u v)))
        (λ s e. absurd (none_is (sym e)))
      where
        upto : is_shut c w ≡ true → k.le u w ≡ true → (k.le u v ≡ true) ⊎ (k.le u v ≡ false) → k.le u v ≡ true
        upto s b (inl t) = t
        upto s b (inr f) = absurd (both_ways (k.le u w) (past x c v w u p q d s o g f) b)

  pub closed_laws : Laws (closed k)
  closed_laws = record {
    le_total = laws.le_total;
    le_trans = laws.le_trans;
    le_anti = laws.le_anti;
    succ_above = laws.succ_above;
    succ_least = laws.succ_least;
    succ_none = laws.succ_none;
    window = λ a p. laws.window a.below p;
    rule_total = λ a b p q h.
        pair_total (k.rule_le a.below b.below) (k.rule_le b.below a.below) (day_le a.closing.day b.closing.day) (day_le b.closing.day a.closing.day)
        (laws.rule_total a.below b.below p q) (day_total a.closing.day b.closing.day) h;
    rule_trans = rule_trans;
    tie_grid = λ a b v p q s h.
        let t = tie a b s in
        let o = and_parts (not (is_shut a.closing.day v)) (k.on_grid a.below v) h in
        and_from (not (is_shut b.closing.day v)) (k.on_grid b.below v) (subst (λ (c : Option ℕ). not (is_shut c v) ≡ true) t.1 o.0) (laws.tie_grid a.below b.below v p q t.0 o.1);
    tie_admits = λ a b v p q s h.
        let t = tie a b s in
        let o = and_parts (not (is_shut a.closing.day v)) (k.rule_admits a.below v) h in
        and_from (not (is_shut b.closing.day v)) (k.rule_admits b.below v) (subst (λ (c : Option ℕ). not (is_shut c v) ≡ true) t.1 o.0) (laws.tie_admits a.below b.below v p q t.0 o.1);
    tie_equal = λ a b p q s d e.
        let t = tie a b s in
        let w = laws.tie_equal a.below b.below p q t.0 d e in
        let c = t.1 in
        λ j. record { below = w j; closing = record { day = c j } };
    grid_value = λ a v p h. laws.grid_value a.below v p (opened a.closing.day a.below v h).1;
    admits_grid = λ a v p h.
        let o = and_parts (not (is_shut a.closing.day v)) (k.rule_admits a.below v) h in
        and_from (not (is_shut a.closing.day v)) (k.on_grid a.below v) o.0 (laws.admits_grid a.below v p o.1);
    next_grid = λ a v w p q e. next_grid a.below a.closing.day p v w q (k.next_on_grid a.below v) refl e;
    next_least = λ a v w u p q e g h. let o = opened a.closing.day a.below u g in next_least a.below a.closing.day p v w u q o.0 o.1 h (k.next_on_grid a.below v) refl e;
    next_none = λ a v u p q e g. let o = opened a.closing.day a.below u g in next_none a.below a.closing.day p v u q o.0 o.1 (k.next_on_grid a.below v) refl e;
    blank_lawful = laws.blank_lawful;
    joins = λ a b p q.
        let j = laws.joins a.below b.below p q in
        record { lawful = j.lawful; rule = tied a ((closed k).join a b) j.rule refl; minimum = j.minimum; maximum = j.maximum };
    covers_refl = λ a b p q s.
        let t = tie a b s in
        and_from (part_of a.closing.day b.closing.day) (k.rule_covers a.below b.below) (subst (λ (c : Option ℕ). part_of a.closing.day c ≡ true) t.1 (part_refl a.closing.day)) (laws.covers_refl a.below b.below p q t.0);
    covers_trans = λ a b c p q r h i.
        let s = and_parts (part_of a.closing.day b.closing.day) (k.rule_covers a.below b.below) h in
        let t = and_parts (part_of b.closing.day c.closing.day) (k.rule_covers b.below c.below) i in
        and_from (part_of a.closing.day c.closing.day) (k.rule_covers a.below c.below) (part_trans a.closing.day b.closing.day c.closing.day s.0 t.0) (laws.covers_trans a.below b.below c.below p q r s.1 t.1);
    covers_anti = λ a b p q h i.
        let s = and_parts (part_of a.closing.day b.closing.day) (k.rule_covers a.below b.below) h in
        let t = and_parts (part_of b.closing.day a.closing.day) (k.rule_covers b.below a.below) i in
        tied a b (laws.covers_anti a.below b.below p q s.1 t.1) (part_anti a.closing.day b.closing.day s.0 t.0);
    covers_admits = λ a b v p q h i.
        let s = and_parts (part_of a.closing.day b.closing.day) (k.rule_covers a.below b.below) h in
        let o = and_parts (not (is_shut b.closing.day v)) (k.rule_admits b.below v) i in
        and_from (not (is_shut a.closing.day v)) (k.rule_admits a.below v) (part_open a.closing.day b.closing.day v s.0 o.0) (laws.covers_admits a.below b.below v p q s.1 o.1);
    layouts = λ b. no_layout_laws (closed_on k.blank None);
    written_lawful = λ b w f t. absurd w;
    meant = λ b w v f p. absurd w;
    refusals = λ s. tt;
  }
