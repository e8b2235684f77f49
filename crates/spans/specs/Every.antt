-- Windows of every day show the laws of a kind.
use Rattle.std.specs.Prelude.{◌≡◌, ℕ, ◌+◌, ◌^◌, ◌≤◌, Bool, true, false, ◌&&◌, leb, [], ◌∷◌, Some, None, Decides, Option, ⊤, nat_le, refl}
use Rattle.std.proofs.Common.{sym, ap, ◌∙◌, arith}
use Rattle.std.proofs.lemmas.Bool.{and_from, and_parts, cond_both, le-leb, leb-false, leb-true, lt-leb, ltb-false, ltb-true}
use Rattle.leaf.specs.Kind.Ext.{value}
use Rattle.leaf.specs.Kind.{Joins, Laws, Lawful, admits, is_value_window, is_window_of, ext_le, from, upto}
use Rattle.leaf.specs.Layouts.{LayoutLaws, is_of_field, is_written_window, written_leaf}
use Rattle.leaf.specs.Windows.{written}
use Rattle.leaf.specs.Headed.{WrittenLeaf}
use Rattle.leaf.specs.Laws.Flags.{unsigned}
use Rattle.leaf.specs.Laws.Headed.{HeadedLaws, fitting, headed_laws}
use Rattle.leaf.specs.Laws.Hulls.{hull_window, joins_hull}
use Rattle.leaf.specs.Laws.Limits.{nat_high, nat_low}
use Rattle.leaf.specs.Laws.Parts.{Part, no_part}
use Rattle.spans.specs.declared.span.Span.{Span}
use Rattle.spans.specs.Spans.{Meant, Role, flags, day, day_plan, following, is_bound, is_day, span_fields, span_layout, span_table, spans}

same_window : (x y : Option ℕ) → (is_bound x && (is_bound y && ext_le leb (from x) (upto y))) ≡ is_value_window spans x y
same_window None None = refl
same_window None (Some y) = refl
same_window (Some x) None = refl
same_window (Some x) (Some y) = refl

next_some : (v w : ℕ) → following v ≡ Some w → (w ≡ v + 1) × (is_day w ≡ true)
next_some v w =
    cond_both (is_day (v + 1)) (Some (v + 1)) None (λ o. o ≡ Some w → (w ≡ v + 1) × (is_day w ≡ true))
    (λ t e. let k : w ≡ v + 1 = cc in (k, ap is_day k ∙ t)) (λ _ e. let z : ◌≡◌ {A = ℕ} 0 1 = cc in absurd (omega arith))

next_no : (v : ℕ) → following v ≡ None → 2 ^ 32 ≤ v + 1
next_no v =
    cond_both (is_day (v + 1)) (Some (v + 1)) None (λ o. o ≡ None → 2 ^ 32 ≤ v + 1)
    (λ _ e. let z : ◌≡◌ {A = ℕ} 0 1 = cc in absurd (omega arith)) (λ n _. ltb-false (v + 1) (2 ^ 32) n)

above : (v w : ℕ) → following v ≡ Some w → (is_day w ≡ true) × (nat_le w v ≡ false)
above v w e = let n = next_some v w e in let k = n.0 in (n.1, lt-leb w v (omega arith))

least : (v w u : ℕ) → following v ≡ Some w → nat_le u v ≡ false → nat_le w u ≡ true
least v w u e h = let k = (next_some v w e).0 in le-leb w u (omega (arith, leb-false u v h))

none : (v u : ℕ) → following v ≡ None → is_day u ≡ true → nat_le u v ≡ true
none v u e g = le-leb u v (omega (arith, next_no v e, ltb-true u (2 ^ 32) g))

-- the layout: a day is a number
days : (negative : Bool) → Part span_table (day_plan negative) (λ n. n ∷ []) is_day (λ n. Some n)
days negative = record {
  stood = λ s at o end (n, size, w, (e, h)). (n, w.fits, e, (size, w.stands, h));
  makes = λ s at n end f (size, w, h). (n, size, record { stands = w; fits = f }, (refl, h));
  below = λ n f. (omega (arith, ltb-true n (2 ^ 32) f), tt);
}

own : (r : Role) → is_of_field (span_table.refusal r) ≡ true
own flags = refl
own day = refl

field_laws : HeadedLaws span_fields (λ _. is_day)
field_laws = record {
  own = own;
  shape = refl;
  flag = unsigned span_fields (λ f. refl) (λ low high. refl);
  bounds = days;
  rest = no_part span_table;
  valued = λ n h. (n, refl);
  same_bound = λ n m h g e. let q : n ≡ m = cc in q;
  same_rest = λ r s h g e. refl;
}

layout_laws : LayoutLaws span_layout
layout_laws = headed_laws span_fields field_laws (is_window_of leb) (λ bounds r. record { bounds = bounds })

bounded : (o : Option ℕ) → is_bound o ≡ true → is_bound (written (λ n. Some n) o) ≡ true
bounded None h = h
bounded (Some n) h = h

written_lawful : (w : WrittenLeaf ℕ ⊤) → span_layout.fits w ≡ true → is_written_window span_layout w ≡ true → Lawful spans (written_leaf span_layout w)
written_lawful w f t =
    let (a, b, c) = fitting span_fields field_laws w f in
    let x = written (λ n. Some n) w.low in
    let y = written (λ n. Some n) w.high in
    and_from (is_bound x) (is_bound y && ext_le leb (from x) (upto y)) (bounded w.low a) (and_from (is_bound y) (ext_le leb (from x) (upto y)) (bounded w.high b) t)

-- a leaf as written admits the days that it means
written_means : (w : WrittenLeaf ℕ ⊤) (v : ℕ) → is_day v ≡ true → Decides (admits spans (written_leaf span_layout w) v) (Meant (written (λ n. Some n) w.low) (written (λ n. Some n) w.high) v)
written_means w v d =
    let low = written (λ n. Some n) w.low in
    let high = written (λ n. Some n) w.high in
    let from_low = ext_le leb (from low) (value v) in
    let to_high = ext_le leb (value v) (upto high) in (
      λ t.
          let x = and_parts from_low (to_high && is_day v) t in
          let y = and_parts to_high (is_day v) x.1 in
          record { minimum = (nat_low low v).0 x.0; maximum = (nat_high high v).0 y.0 },
      λ m. and_from from_low (to_high && is_day v) ((nat_low low v).1 m.minimum) (and_from to_high (is_day v) ((nat_high high v).1 m.maximum) d),
    )

total : (a b : ℕ) → nat_le a b ≡ false → nat_le b a ≡ true
total a b h = le-leb b a (omega (arith, leb-false a b h))

trans : (a b c : ℕ) → nat_le a b ≡ true → nat_le b c ≡ true → nat_le a c ≡ true
trans a b c h i = le-leb a c (omega (arith, leb-true a b h, leb-true b c i))

joined : (a b : Span) → Lawful spans a → Lawful spans b → Joins spans a b (spans.join a b)
joined a b p q =
    let x = sym (same_window a.bounds.minimum a.bounds.maximum) ∙ p in
    let y = sym (same_window b.bounds.minimum b.bounds.maximum) ∙ q in
    joins_hull spans total trans a b (spans.join a b)
    (same_window (spans.join a b).bounds.minimum (spans.join a b).bounds.maximum ∙ hull_window spans total trans a.bounds.minimum a.bounds.maximum b.bounds.minimum b.bounds.maximum x y)
    refl refl refl

pub spans_laws : Laws spans
spans_laws = record {
  le_total = total;
  le_trans = trans;
  le_anti = λ a b h i. omega (arith, leb-true a b h, leb-true b a i);
  succ_above = λ v w p e. above v w e;
  succ_least = λ v w u p e h. least v w u e h;
  succ_none = λ v u p e q. none v u e q;
  window = λ a p. sym (same_window a.bounds.minimum a.bounds.maximum) ∙ p;
  rule_total = λ a b p q h. refl;
  rule_trans = λ a b c p q r h i. refl;
  tie_grid = λ a b v p q s h. h;
  tie_admits = λ a b v p q s h. h;
  tie_equal = λ a b p q s d e. λ k. record { bounds = record { minimum = d k; maximum = e k } };
  grid_value = λ a v p h. h;
  admits_grid = λ a v p h. h;
  next_grid = λ a v w p q e. above v w e;
  next_least = λ a v w u p q e g h. least v w u e h;
  next_none = λ a v u p q e g. none v u e g;
  blank_lawful = refl;
  joins = λ a b p q. joined a b p q;
  covers_refl = λ a b p q s. refl;
  covers_trans = λ a b c p q r h i. refl;
  covers_anti = λ a b p q h i. refl;
  covers_admits = λ a b v p q h i. i;
  layouts = λ b. layout_laws;
  written_lawful = λ b. written_lawful;
  meant = λ b w v f d. written_means w v d;
  refusals = λ s. tt;
}
