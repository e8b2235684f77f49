-- Day leaves show the laws of a kind.
use Rattle.std.specs.Prelude.{◌≡◌, ℕ, ◌+◌, ◌<◌, ◌≤◌, true, false, Some, None, nat_le, nat_lt, refl}
use Rattle.std.proofs.Common.{sym, ap, ◌∙◌, arith}
use Rattle.std.proofs.lemmas.Bool.{leb-true, leb-false, le-leb, lt-leb, ltb-true, ltb-false, lt-ltb, cond_both, and_parts, and_from}
use Rattle.leaf.specs.Kind.{Joins, Laws, Lawful, same_rule}
use Rattle.leaf.specs.Laws.Hulls.{hull_window, joins_hull}
use Rattle.leaf.specs.Numbers.{has_bit}
use Rattle.days.specs.declared.day_leaf.DayLeaf.{DayLeaf}
use Rattle.days.specs.Calendar.{is_day_number, weekday}
use Rattle.days.specs.Weekdays.{holds, is_on_grid}
use Rattle.days.specs.Days.{days}
use Rattle.days.specs.Grid.{absent, grid_day, next_grid, next_least, next_none}
use Rattle.days.specs.Sets.{holds_self, holds_trans, holds_anti, holds_has}
use Rattle.days.specs.Lawful.{lawful_parts, same_window, window_lawful}
use Rattle.days.specs.Laws.Layout.{layout_laws, written_lawful, refusals}
use Rattle.days.specs.Means.{leaf_means}
use Rattle.days.specs.Words.{value_of}

total : (a b : ℕ) → nat_le a b ≡ false → nat_le b a ≡ true
total a b h = le-leb b a (omega (arith, leb-false a b h))

trans : (a b c : ℕ) → nat_le a b ≡ true → nat_le b c ≡ true → nat_le a c ≡ true
trans a b c h i = le-leb a c (omega (arith, leb-true a b h, leb-true b c i))

one_rule : (a b : DayLeaf) → same_rule days a b ≡ true → a.weekdays ≡ b.weekdays
one_rule a b h =
    let p = and_parts (nat_le a.weekdays b.weekdays) (nat_le b.weekdays a.weekdays) h in
    omega (arith, leb-true _ _ p.0, leb-true _ _ p.1)

tied : (a b : DayLeaf) → a.weekdays ≡ b.weekdays → same_rule days a b ≡ true
tied a b e = and_from _ _ (le-leb a.weekdays b.weekdays (omega arith)) (le-leb b.weekdays a.weekdays (omega arith))

grid_holds : (a b v : ℕ) → holds a b ≡ true → is_on_grid b v ≡ true → is_on_grid a v ≡ true
unfolding is_on_grid
grid_holds a b v h g =
    let p = and_parts (is_day_number v) (has_bit b (weekday v)) g in
    and_from _ _ p.0 (holds_has a b (weekday v) h p.1)

succ_is : (v w : ℕ) → days.succ v ≡ Some w → (w ≡ v + 1) × (v < 73048)
succ_is v w = cond_both (nat_lt v 73048) (Some (v + 1)) None (λ r. r ≡ Some w → (w ≡ v + 1) × (v < 73048)) (λ t e. (cc, ltb-true v 73048 t)) (λ f e. absurd (absent w e))

succ_last : (v : ℕ) → days.succ v ≡ None → 73048 ≤ v
succ_last v = cond_both (nat_lt v 73048) (Some (v + 1)) None (λ r. r ≡ None → 73048 ≤ v) (λ t e. absurd (absent (v + 1) (sym e))) (λ f e. ltb-false v 73048 f)

joined : (a b : DayLeaf) → Lawful days a → Lawful days b → Joins days a b (days.join a b)
joined a b p q =
    let x = lawful_parts a.bounds.minimum a.bounds.maximum a.weekdays p in
    let y = lawful_parts b.bounds.minimum b.bounds.maximum b.weekdays q in
    let j = days.join a b in
    let w =
    hull_window days total trans a.bounds.minimum a.bounds.maximum b.bounds.minimum b.bounds.maximum (sym (same_window a.bounds.minimum a.bounds.maximum) ∙ x.0)
    (sym (same_window b.bounds.minimum b.bounds.maximum) ∙ y.0) in
    joins_hull days total trans a b j (window_lawful j.bounds.minimum j.bounds.maximum a.weekdays w x.1) (tied a j refl) refl refl

pub days_laws : Laws days
days_laws = record {
  le_total = total;
  le_trans = trans;
  le_anti = λ a b h i. omega (arith, leb-true a b h, leb-true b a i);
  succ_above = λ v w p e. let n = succ_is v w e in (lt-ltb w 73049 (omega (arith, n.0, n.1)), lt-leb w v (omega (arith, n.0)));
  succ_least = λ v w u p e h. le-leb w u (omega (arith, (succ_is v w e).0, leb-false u v h));
  succ_none = λ v u p e h. le-leb u v (omega (arith, succ_last v e, ltb-true u 73049 h));
  window = λ a p. sym (same_window a.bounds.minimum a.bounds.maximum) ∙ (lawful_parts a.bounds.minimum a.bounds.maximum a.weekdays p).0;
  rule_total = λ a b p q h. total a.weekdays b.weekdays h;
  rule_trans = λ a b c p q r h i. trans a.weekdays b.weekdays c.weekdays h i;
  tie_grid = λ a b v p q s g. ap (λ w. is_on_grid w v) (sym (one_rule a b s)) ∙ g;
  tie_admits = λ a b v p q s g. ap (λ w. is_on_grid w v) (sym (one_rule a b s)) ∙ g;
  tie_equal = λ a b p q s d e. let w = one_rule a b s in λ i. record { bounds = record { minimum = d i; maximum = e i }; weekdays = w i };
  grid_value = λ a v p h. lt-ltb v 73049 (grid_day a.weekdays v h);
  admits_grid = λ a v p h. h;
  next_grid = λ a v w p q e. let n = next_grid a.weekdays v w e in (n.0, lt-leb w v n.1);
  next_least = λ a v w u p q e g h. le-leb w u (next_least a.weekdays v w u e g (leb-false u v h));
  next_none = λ a v u p q e g. le-leb u v (next_none a.weekdays v u e g);
  blank_lawful = refl;
  joins = λ a b p q. joined a b p q;
  covers_refl = λ a b p q s. ap (λ w. holds a.weekdays w) (sym (one_rule a b s)) ∙ holds_self a.weekdays;
  covers_trans = λ a b c p q r h i. holds_trans a.weekdays b.weekdays c.weekdays h i;
  covers_anti = λ a b p q h i. tied a b (holds_anti a.weekdays b.weekdays h i);
  covers_admits = λ a b v p q h g. grid_holds a.weekdays b.weekdays v h g;
  layouts = λ b. layout_laws;
  written_lawful = λ b. written_lawful;
  meant = λ b w d f p. leaf_means (value_of w.low) (value_of w.high) w.rest d;
  refusals = refusals;
}
