-- Every kind's leaves are leaves over the values and their two ends.
use Rattle.std.proofs.Common.{◌≡◌, Bool, true, false, not, ◌&&◌, ◌||◌, ◌⊎◌, List, [], ◌∷◌, Some, None, Option, sym, refl, ap, ◌∙◌, subst, inl, inr}
use Rattle.std.proofs.lemmas.Bool.{cases_Bool, both_ways, and_parts, and_from, and_cases, true≢false, false≢true}
use Rattle.list.specs.Lists.{Any, Pairs}
use Rattle.list.proofs.Core.{Ops, Laws, Lt, Same, Within, Gap, Up}
use Rattle.list.proofs.Core
use Rattle.leaf.specs.Kind.{Kind, Laws as KindLaws, Ext, ext_le, from, upto, none_below, gapless, same_rule, touches, admits, before, is_bound}
use Rattle.list.specs.Readings.{InWindow, Holds, Between, Apart, Made}
use Rattle.leaf.specs.Kind.Ext.{bottom, value, top}
use Rattle.list.proofs.Rows.{any_map, all_map2}
use Rattle.list.proofs.Order.{eq_le}

module _ {V : Type 0} where
  abbrev pub inside : (V → Bool) → Ext V → Bool
  inside p bottom = false
  inside p (value v) = p v
  inside p top = false

module _ {V L : Type 0} (m : Kind V L) where
  abbrev pub ops : Ops (Ext V) L
  ops = record {
    le = ext_le m.le;
    lo = λ a. from (m.minimum a);
    hi = λ a. upto (m.maximum a);
    ok = m.lawful;
    rle = m.rule_le;
    grid = λ a. inside (m.on_grid a);
    touch = touches m;
    join = m.join;
    rcov = m.rule_covers;
  }

module _ {V L : Type 0} (m : Kind V L) (k : KindLaws m) where
  ext_total : (a b : Ext V) → ext_le m.le a b ≡ false → ext_le m.le b a ≡ true
  ext_total bottom b h = absurd (true≢false h)
  ext_total (value a) bottom h = refl
  ext_total (value a) (value b) h = k.le_total a b h
  ext_total (value a) top h = absurd (true≢false h)
  ext_total top bottom h = refl
  ext_total top (value b) h = refl
  ext_total top top h = refl

  ext_trans : (a b c : Ext V) → ext_le m.le a b ≡ true → ext_le m.le b c ≡ true → ext_le m.le a c ≡ true
  ext_trans bottom b c h i = refl
  ext_trans (value a) bottom c h i = absurd (false≢true h)
  ext_trans (value a) (value b) bottom h i = i
  ext_trans (value a) (value b) (value c) h i = k.le_trans a b c h i
  ext_trans (value a) (value b) top h i = refl
  ext_trans (value a) top bottom h i = i
  ext_trans (value a) top (value c) h i = absurd (false≢true i)
  ext_trans (value a) top top h i = refl
  ext_trans top bottom c h i = absurd (false≢true h)
  ext_trans top (value b) c h i = absurd (false≢true h)
  ext_trans top top c h i = i

  from_anti : (a b : Option V) → ext_le m.le (from a) (from b) ≡ true → ext_le m.le (from b) (from a) ≡ true → a ≡ b
  from_anti None None h i = refl
  from_anti None (Some y) h i = absurd (false≢true i)
  from_anti (Some x) None h i = absurd (false≢true h)
  from_anti (Some x) (Some y) h i = ap {B = Option V} Some (k.le_anti x y h i)

  upto_anti : (a b : Option V) → ext_le m.le (upto a) (upto b) ≡ true → ext_le m.le (upto b) (upto a) ≡ true → a ≡ b
  upto_anti None None h i = refl
  upto_anti None (Some y) h i = absurd (false≢true h)
  upto_anti (Some x) None h i = absurd (false≢true i)
  upto_anti (Some x) (Some y) h i = ap {B = Option V} Some (k.le_anti x y h i)

  tie : (a b : L) → Same (ops m) a b → same_rule m a b ≡ true
  tie a b s = and_from (m.rule_le a b) (m.rule_le b a) s.0 s.1

  untie : (a b : L) → same_rule m a b ≡ true → Same (ops m) a b
  untie a b h = and_parts (m.rule_le a b) (m.rule_le b a) h

  bounds : (a : L) → m.lawful a ≡ true → (is_bound m (m.maximum a) ≡ true) × (ext_le m.le (from (m.minimum a)) (upto (m.maximum a)) ≡ true)
  bounds a p = and_parts (is_bound m (m.maximum a)) (ext_le m.le (from (m.minimum a)) (upto (m.maximum a))) (and_parts (is_bound m (m.minimum a)) _ (k.window a p)).1

  maximum_value : (a : L) (v : V) → m.lawful a ≡ true → m.maximum a ≡ Some v → m.is_value v ≡ true
  maximum_value a v p e = subst (λ (x : Option V). is_bound m x ≡ true) e (bounds a p).0

  inside_map : (p q : V → Bool) → ((v : V) → p v ≡ true → q v ≡ true) → (e : Ext V) → inside p e ≡ true → inside q e ≡ true
  inside_map p q f bottom h = h
  inside_map p q f (value v) h = f v h
  inside_map p q f top h = h

  -- no grid value between, as next tells it
  touch_none : (a b : L) → m.lawful a ≡ true → (x y : Option V) → m.maximum a ≡ x → gapless m.le (m.next_on_grid a) x y ≡ true → (g : Ext V) → inside (m.on_grid a) g ≡ true → Lt (ops m) (upto x) g → Lt (ops m) g (from y) → ⊥
  touch_none a b p x y d t bottom h i j = false≢true h
  touch_none a b p x y d t top h i j = false≢true h
  touch_none a b p None y d t (value g) h i j = true≢false i
  touch_none a b p (Some x) None d t (value g) h i j = true≢false j
  touch_none a b p (Some x) (Some y) d t (value g) h i j = at (m.next_on_grid a x) refl t
    where
      at : (w : Option V) → m.next_on_grid a x ≡ w → none_below m.le w y ≡ true → ⊥
      at None e t = both_ways (m.le g x) i (k.next_none a x g p (maximum_value a x p d) e h)
      at (Some w) e t = both_ways (m.le y g) j (k.le_trans y w g t (k.next_least a x w g p (maximum_value a x p d) e h i))

  touch_gap : (a : L) → m.lawful a ≡ true → (x y : Option V) → m.maximum a ≡ x → gapless m.le (m.next_on_grid a) x y ≡ false → (g : Ext V) × (inside (m.on_grid a) g ≡ true) × Lt (ops m) (upto x) g × Lt (ops m) g (from y)
  touch_gap a p None y d t = absurd (true≢false t)
  touch_gap a p (Some x) None d t = absurd (true≢false t)
  touch_gap a p (Some x) (Some y) d t = at (m.next_on_grid a x) refl t
    where
      at : (w : Option V) → m.next_on_grid a x ≡ w → none_below m.le w y ≡ false → (g : Ext V) × (inside (m.on_grid a) g ≡ true) × Lt (ops m) (value x) g × Lt (ops m) g (value y)
      at None e t = absurd (true≢false t)
      at (Some w) e t = let q = k.next_grid a x w p (maximum_value a x p d) e in (value w, q.0, q.1, t)

  pub laws : Laws (ops m)
  laws = record {
    le_total = ext_total;
    le_trans = ext_trans;
    window = λ a p. (bounds a p).1;
    rle_total = k.rule_total;
    rle_trans = k.rule_trans;
    fuse = λ a b p q w v. k.tie_equal a b p q (tie a b w.0) (from_anti (m.minimum a) (m.minimum b) v.1 w.1) (upto_anti (m.maximum a) (m.maximum b) w.2 v.2);
    same_grid = λ a b v p q s. inside_map (m.on_grid a) (m.on_grid b) (λ u. k.tie_grid a b u p q (tie a b s)) v;
    touch_same = λ a b p q t. untie a b (and_parts (same_rule m a b) (gapless m.le (m.next_on_grid a) (m.maximum a) (m.minimum b)) t).0;
    touch_none = λ a b p q t g. touch_none a b p (m.maximum a) (m.minimum b) refl (and_parts (same_rule m a b) (gapless m.le (m.next_on_grid a) (m.maximum a) (m.minimum b)) t).1 g.0 g.1 g.2 g.3;
    touch_gap = λ a b p q t s. touch_gap a p (m.maximum a) (m.minimum b) refl (elim (and_cases (same_rule m a b) (gapless m.le (m.next_on_grid a) (m.maximum a) (m.minimum b)) t) [ inl f ↦ absurd (both_ways (same_rule m a b) f (tie a b s)) | inr f ↦ f ]);
    join_ok = λ a b p q s. (k.joins a b p q).lawful;
    join_left = λ a b p q s. let j = k.joins a b p q in (untie a (m.join a b) j.rule, j.minimum.0, j.maximum.0);
    join_right = λ a b p q s.
        let j = k.joins a b p q in
        let u = untie a (m.join a b) j.rule in
        ((k.rule_trans b a (m.join a b) q p j.lawful s.1 u.0, k.rule_trans (m.join a b) a b j.lawful p q u.1 s.0), j.minimum.1, j.maximum.1);
    join_lo = λ a b p q s. elim (k.joins a b p q).minimum.2 [ inl e ↦ inl (ap {B = Ext V} from e) | inr e ↦ inr (ap {B = Ext V} from e) ];
    join_hi = λ a b p q s. elim (k.joins a b p q).maximum.2 [ inl e ↦ inl (ap {B = Ext V} upto e) | inr e ↦ inr (ap {B = Ext V} upto e) ];
    rcov_same = λ a b p q s. k.covers_refl a b p q (tie a b s);
    rcov_trans = k.covers_trans;
    rcov_anti = λ a b p q c d. untie a b (k.covers_anti a b p q c d);
  }

  pub admits_parts : (x : L) (v : V) → admits m x v ≡ true → (m.rule_admits x v ≡ true) × InWindow m x v
  admits_parts x v h =
      let p = and_parts (ext_le m.le (from (m.minimum x)) (value v)) (ext_le m.le (value v) (upto (m.maximum x)) && m.rule_admits x v) h in
      let q = and_parts (ext_le m.le (value v) (upto (m.maximum x))) (m.rule_admits x v) p.1 in
      (q.1, (p.0, q.0))

  pub admits_from : (x : L) (v : V) → m.rule_admits x v ≡ true → InWindow m x v → admits m x v ≡ true
  admits_from x v h i =
      and_from (ext_le m.le (from (m.minimum x)) (value v)) (ext_le m.le (value v) (upto (m.maximum x)) && m.rule_admits x v) i.0
      (and_from (ext_le m.le (value v) (upto (m.maximum x))) (m.rule_admits x v) i.1 h)

  -- a grid value between, in the words of values
  between : (a b : L) → Gap (ops m) a b → Between m a b
  between a b g = at (m.maximum a) (m.minimum b) refl refl g.0 g.1 g.2 g.3
    where
      at : (x y : Option V) → m.maximum a ≡ x → m.minimum b ≡ y → (g : Ext V) → inside (m.on_grid a) g ≡ true → Lt (ops m) (upto x) g → Lt (ops m) g (from y) → Between m a b
      at x y d e bottom h i j = absurd (false≢true h)
      at x y d e top h i j = absurd (false≢true h)
      at None y d e (value g) h i j = absurd (true≢false i)
      at (Some x) None d e (value g) h i j = absurd (true≢false j)
      at (Some x) (Some y) d e (value g) h i j = (x, y, g, d, e, h, i, j)

  gap : (a b : L) → Between m a b → Gap (ops m) a b
  gap a b t = (value t.2, t.5, rw t.3 t.6, rw t.4 t.7)

  -- the relations of leaves, in the words of values and back
  pub from_apart : (a b : L) → Core.Apart (ops m) a b → Apart m a b
  from_apart a b (inl f) = inl f
  from_apart a b (inr h) = inr (tie a b h.0, between a b h.1)

  pub to_apart : (a b : L) → Apart m a b → Core.Apart (ops m) a b
  to_apart a b (inl f) = inl f
  to_apart a b (inr h) = inr (untie a b h.0, gap a b h.1)

  pub parted : (a b : L) → Apart m a b → same_rule m a b ≡ true → Between m a b
  parted a b (inl f) s = absurd (both_ways (m.rule_le b a) f (untie a b s).1)
  parted a b (inr h) s = h.1

  pub from_within : (a b : L) → Within (ops m) b a → Holds m a b
  from_within a b h = (tie a b (h.0.1, h.0.0), h.1, h.2)

  pub to_within : (a b : L) → Holds m a b → Within (ops m) b a
  to_within a b h = let s = untie a b h.0 in ((s.1, s.0), h.1, h.2)

  pub from_made : (xs : List L) (j : L) → Core.Made (ops m) xs j → Made m xs j
  from_made xs j h = record {
    minimum = any_map (λ x. Same (ops m) j x × (from (m.minimum j) ≡ from (m.minimum x))) _
        (λ x s. (tie j x s.0, from_anti (m.minimum j) (m.minimum x) (eq_le (ops m) laws _ _ s.1) (eq_le (ops m) laws _ _ (sym s.1)))) xs h.0;
    maximum = any_map (λ x. Same (ops m) j x × (upto (m.maximum j) ≡ upto (m.maximum x))) _
        (λ x s. (tie j x s.0, upto_anti (m.maximum j) (m.maximum x) (eq_le (ops m) laws _ _ s.1) (eq_le (ops m) laws _ _ (sym s.1)))) xs h.1;
    filled = λ g d i. any_map (λ x. Same (ops m) j x × InWindow m x g) _ (λ x s. (tie j x s.0, s.1)) xs (h.2 (value g) d i);
  }

  pub to_made : (xs : List L) (j : L) → Made m xs j → Core.Made (ops m) xs j
  to_made xs j h = (
    any_map (λ x. (same_rule m j x ≡ true) × (m.minimum j ≡ m.minimum x)) _ (λ x s. (untie j x s.0, ap {B = Ext V} from s.1)) xs h.minimum,
    any_map (λ x. (same_rule m j x ≡ true) × (m.maximum j ≡ m.maximum x)) _ (λ x s. (untie j x s.0, ap {B = Ext V} upto s.1)) xs h.maximum,
    fill,
  )
    where
      fill : (g : Ext V) → inside (m.on_grid j) g ≡ true → Core.Inside (ops m) j g → Any (λ x. Same (ops m) j x × Core.Inside (ops m) x g) xs
      fill bottom d i = absurd (false≢true d)
      fill (value g) d i = any_map (λ x. (same_rule m j x ≡ true) × InWindow m x g) _ (λ x s. (untie j x s.0, s.1)) xs (h.filled g d i)
      fill top d i = absurd (false≢true d)

  pub up_before : (a b : L) → Up (ops m) a b → before m a b ≡ true
  up_before a b u = and_from (m.rule_le a b) (not (m.rule_le b a) || ext_le m.le (from (m.minimum a)) (from (m.minimum b))) u.0 (at (cases_Bool (m.rule_le b a)))
    where
      at : (m.rule_le b a ≡ true) ⊎ (m.rule_le b a ≡ false) → (not (m.rule_le b a) || ext_le m.le (from (m.minimum a)) (from (m.minimum b))) ≡ true
      at (inl t) = ap (λ c. not c || ext_le m.le (from (m.minimum a)) (from (m.minimum b))) t ∙ u.1 t
      at (inr f) = ap (λ c. not c || ext_le m.le (from (m.minimum a)) (from (m.minimum b))) f

  pub both : (R S T : L → L → Type 0) → ((a b : L) → R a b → S a b → T a b) → (l : List L) → Pairs R l → Pairs S l → Pairs T l
  both R S T f [] h i = tt
  both R S T f (x ∷ xs) h i = (all_map2 (R x) (S x) (T x) (f x) xs h.0 i.0, both R S T f xs h.1 i.1)
