-- Amounts show the laws of a kind.
use Rattle.std.specs.Prelude.{◌≡◌, ℕ, ◌%◌, ◌^◌, true, false, ◌&&◌, List, ℤ, pos, ◌+ℤ◌, ◌<ℤ◌, Some, None, Option, ◌==◌, int_le, unsigned_abs, refl}
use Rattle.std.proofs.Common.{sym, ap, subst, ◌∙◌, ⊎_elim, arith}
use Rattle.std.specs.Int.Signed.{mag}
use Rattle.std.proofs.lemmas.Int.{ints}
use Rattle.std.proofs.lemmas.Bool.{and_from, and_parts, both_ways, cases_Bool, cond_both, eq-eqb, lt-ltb, ltb-true}
use Rattle.divisors.specs.declared.fraction.Fraction.{Fraction}
use Rattle.divisors.specs.declared.row.Row.{Row}
use Rattle.divisors.specs.Dividing.{bars_no_more, divide_all, thinned}
use Rattle.divisors.specs.Lawful.{barred_laws, kept_laws, order_laws, required_laws}
use Rattle.divisors.specs.Lists.{are_reduced}
use Rattle.divisors.specs.Rows.{fractions, is_folded, is_thinned, padded, row_of}
use Rattle.divisors.specs.Settled.{settled}
use Rattle.leaf.specs.Kind.{Joins, Lawful, Laws, is_value_window, same_rule}
use Rattle.leaf.specs.Laws.Hulls.{hull_window, joins_hull}
use Rattle.amounts.specs.declared.amount_leaf.AmountLeaf.{AmountLeaf}
use Rattle.amounts.specs.Amounts.{amounts, is_lawful}
use Rattle.amounts.specs.Leaves.{is_bound, barred, is_window, required}
use Rattle.amounts.specs.Rules.{admitted, both_at_most, step}
use Rattle.amounts.specs.Values.{incremented, is_amount, is_on_grid}
use Rattle.amounts.specs.Makes.{lawful_leaf}
use Rattle.amounts.specs.Nexts.{le_of, lt_of, next_grid, next_least, next_none, of_le, of_lt}
use Rattle.amounts.specs.Laws.Layout.{blank_lawful, layout_laws, written_lawful, leaf_meant, refusals}
use Rattle.amounts.specs.RulesLemmas.{admitted_means, admitted_step, both_parts, both_refl, both_total, both_trans, step_pos}

le_total : (a b : ℤ) → int_le a b ≡ false → int_le b a ≡ true
le_total a b h = let k = lt_of b a h in of_le b a (omega (arith, ints))

le_trans : (a b c : ℤ) → int_le a b ≡ true → int_le b c ≡ true → int_le a c ≡ true
le_trans a b c h i = let k = le_of a b h in let l = le_of b c i in of_le a c (omega (arith, ints))

le_anti : (a b : ℤ) → int_le a b ≡ true → int_le b a ≡ true → a ≡ b
le_anti a b h i = let k = le_of a b h in let l = le_of b a i in omega (arith, ints)

-- the next amount
succ_some : (v w : ℤ) → incremented v ≡ Some w → (w ≡ v +ℤ pos 1) × (is_amount w ≡ true)
succ_some v w =
    cond_both (is_amount (v +ℤ pos 1)) (Some (v +ℤ pos 1)) None (λ o. o ≡ Some w → (w ≡ v +ℤ pos 1) × (is_amount w ≡ true))
    (λ t e. let k : w ≡ v +ℤ pos 1 = cc in (k, ap is_amount k ∙ t)) (λ _ e. let z : ◌≡◌ {A = ℕ} 0 1 = cc in absurd (omega arith))

succ_no : (v : ℤ) → incremented v ≡ None → is_amount (v +ℤ pos 1) ≡ false
succ_no v =
    cond_both (is_amount (v +ℤ pos 1)) (Some (v +ℤ pos 1)) None (λ o. o ≡ None → is_amount (v +ℤ pos 1) ≡ false)
    (λ _ e. let z : ◌≡◌ {A = ℕ} 0 1 = cc in absurd (omega arith)) (λ n _. n)

between : (v u : ℤ) → is_amount v ≡ true → is_amount u ≡ true → v <ℤ u → is_amount (v +ℤ pos 1) ≡ true
between v u f g a =
    let x = ltb-true (mag v) (2 ^ 63) f in
    let y = ltb-true (mag u) (2 ^ 63) g in
    lt-ltb (mag (v +ℤ pos 1)) (2 ^ 63) (grind (arith, ints))

-- the parts of a lawful leaf
record Parts (a : AmountLeaf) : Type 0 where
  window : is_value_window amounts a.bounds.minimum a.bounds.maximum ≡ true
  folded : is_folded a.required ≡ true
  thin : is_thinned a.barred ≡ true
  settles : settled (required a) ≡ true
  thins : thinned (barred a) ≡ true
  req : are_reduced (required a) ≡ true
  bar : are_reduced (barred a) ≡ true

same_window : (x y : Option ℤ) → (is_bound x && (is_bound y && is_window x y)) ≡ true → is_value_window amounts x y ≡ true
same_window None None h = h
same_window None (Some y) h = h
same_window (Some x) None h = h
same_window (Some x) (Some y) h = h

parts : (a : AmountLeaf) → is_lawful a ≡ true → Parts a
parts a h =
    let l = a.bounds.minimum in
    let u = a.bounds.maximum in
    let x = and_parts (is_bound l) (is_bound u && (is_window l u && (is_folded a.required && is_thinned a.barred))) h in
    let y = and_parts (is_bound u) (is_window l u && (is_folded a.required && is_thinned a.barred)) x.1 in
    let z = and_parts (is_window l u) (is_folded a.required && is_thinned a.barred) y.1 in
    let t = and_parts (is_folded a.required) (is_thinned a.barred) z.1 in
    let s = (and_parts (padded a.required) (settled (required a)) t.0).1 in
    let b = (and_parts (padded a.barred) (thinned (barred a)) t.1).1 in
    record {
      window = same_window l u (and_from (is_bound l) (is_bound u && is_window l u) x.0 (and_from (is_bound u) (is_window l u) y.0 z.0));
      folded = t.0;
      thin = t.1;
      settles = s;
      thins = b;
      req = required_laws.reduced (required a) s;
      bar = barred_laws.reduced (barred a) b;
    }

-- tied rules are equal, and equal rules tie
tie : (a b : AmountLeaf) → Parts a → Parts b → same_rule amounts a b ≡ true → (required a ≡ required b) × (barred a ≡ barred b)
tie a b p q h =
    let t = and_parts (both_at_most (required a) (barred a) (required b) (barred b)) (both_at_most (required b) (barred b) (required a) (barred a)) h in
    let x = both_parts (required a) (barred a) (required b) (barred b) t.0 in
    let y = both_parts (required b) (barred b) (required a) (barred a) t.1 in (
      order_laws.antisymmetric (required a) (required b) p.req q.req x.0 y.0,
      order_laws.antisymmetric (barred a) (barred b) p.bar q.bar (x.1 y.0) (y.1 x.0),
    )

equal_tie : (a b : AmountLeaf) → required a ≡ required b → barred a ≡ barred b → same_rule amounts a b ≡ true
equal_tie a b d e =
    and_from (both_at_most (required a) (barred a) (required b) (barred b)) (both_at_most (required b) (barred b) (required a) (barred a))
    (both_refl (required a) (barred a) (required b) (barred b) d e) (both_refl (required b) (barred b) (required a) (barred a) (sym d) (sym e))

-- rows of equal lists are equal
same_row : (r s : Row) → padded r ≡ true → padded s ≡ true → fractions r ≡ fractions s → r ≡ s
same_row r s h i e = kept_laws.row r h ∙ (ap row_of e ∙ sym (kept_laws.row s i))

tie_equal : (a b : AmountLeaf) → Parts a → Parts b → same_rule amounts a b ≡ true → a.bounds.minimum ≡ b.bounds.minimum → a.bounds.maximum ≡ b.bounds.maximum → a ≡ b
tie_equal a b p q s d e =
    let t = tie a b p q s in
    let r = same_row a.required b.required (and_parts (padded a.required) (settled (required a)) p.folded).0 (and_parts (padded b.required) (settled (required b)) q.folded).0 t.0 in
    let w = same_row a.barred b.barred (and_parts (padded a.barred) (thinned (barred a)) p.thin).0 (and_parts (padded b.barred) (thinned (barred b)) q.thin).0 t.1 in
    λ k. record { bounds = record { minimum = d k; maximum = e k }; required = r k; barred = w k }

covers_parts : (a b : AmountLeaf) → amounts.rule_covers a b ≡ true → (divide_all (required a) (required b) ≡ true) × (bars_no_more (barred a) (barred b) ≡ true)
covers_parts a b h = and_parts (divide_all (required a) (required b)) (bars_no_more (barred a) (barred b)) h

covers_from : (a b : AmountLeaf) → divide_all (required a) (required b) ≡ true → bars_no_more (barred a) (barred b) ≡ true → amounts.rule_covers a b ≡ true
covers_from a b h i = and_from (divide_all (required a) (required b)) (bars_no_more (barred a) (barred b)) h i

covers_refl : (a b : AmountLeaf) → Parts a → Parts b → same_rule amounts a b ≡ true → amounts.rule_covers a b ≡ true
covers_refl a b p q s =
    let t = tie a b p q s in
    covers_from a b
    (subst (λ (xs : List Fraction). divide_all (required a) xs ≡ true) t.0 (required_laws.reflexive (required a) p.settles))
    (subst (λ (xs : List Fraction). bars_no_more (barred a) xs ≡ true) t.1 (barred_laws.reflexive (barred a) p.thins))

covers_trans : (a b c : AmountLeaf) → Parts a → Parts c → amounts.rule_covers a b ≡ true → amounts.rule_covers b c ≡ true → amounts.rule_covers a c ≡ true
covers_trans a b c p r h i =
    let x = covers_parts a b h in
    let y = covers_parts b c i in
    covers_from a c
    (required_laws.transitive (required a) (required b) (required c) p.settles r.settles x.0 y.0)
    (barred_laws.transitive (barred a) (barred b) (barred c) p.thins r.thins x.1 y.1)

covers_anti : (a b : AmountLeaf) → Parts a → Parts b → amounts.rule_covers a b ≡ true → amounts.rule_covers b a ≡ true → same_rule amounts a b ≡ true
covers_anti a b p q h i =
    let x = covers_parts a b h in
    let y = covers_parts b a i in
    equal_tie a b
    (required_laws.antisymmetric (required a) (required b) p.settles q.settles x.0 y.0)
    (barred_laws.antisymmetric (barred a) (barred b) p.thins q.thins x.1 y.1)

covers_admits : (a b : AmountLeaf) (v : ℤ) → Parts a → Parts b → amounts.rule_covers a b ≡ true → amounts.rule_admits b v ≡ true → amounts.rule_admits a v ≡ true
covers_admits a b v p q h i =
    let x = covers_parts a b h in
    let y = and_parts (is_amount v) (admitted (required b) (barred b) (unsigned_abs v)) i in
    let m = (admitted_means (required b) (barred b) v).0 y.1 in
    and_from (is_amount v) (admitted (required a) (barred a) (unsigned_abs v)) y.0
    ((admitted_means (required a) (barred a) v).1
    (required_laws.no_more (required a) (required b) p.settles q.settles x.0 v m.0, barred_laws.no_more (barred a) (barred b) p.thins q.thins x.1 v m.1))

admits_grid : (a : AmountLeaf) (v : ℤ) → amounts.rule_admits a v ≡ true → amounts.on_grid a v ≡ true
admits_grid a v h =
    let y = and_parts (is_amount v) (admitted (required a) (barred a) (unsigned_abs v)) h in
    and_from (is_amount v) (unsigned_abs v % step (required a) == 0) y.0
    (eq-eqb (unsigned_abs v % step (required a)) 0 (admitted_step (required a) (barred a) (unsigned_abs v) y.1))

joined : (a b : AmountLeaf) → Lawful amounts a → Lawful amounts b → Joins amounts a b (amounts.join a b)
joined a b p q =
    let x = parts a p in
    let j = amounts.join a b in
    let w = hull_window amounts le_total le_trans a.bounds.minimum a.bounds.maximum b.bounds.minimum b.bounds.maximum x.window (parts b q).window in
    joins_hull amounts le_total le_trans a b j (lawful_leaf j.bounds.minimum j.bounds.maximum a.required a.barred w x.folded x.thin) (equal_tie a j refl refl) refl refl

pub amounts_laws : Laws amounts
amounts_laws = record {
  le_total = le_total;
  le_trans = le_trans;
  le_anti = le_anti;
  succ_above = λ v w p e. let t = succ_some v w e in (t.1, let k = t.0 in of_lt v w (omega (arith, ints)));
  succ_least = λ v w u p e h. let t = succ_some v w e in let k = t.0 in let l = lt_of v u h in of_le w u (omega (arith, ints));
  succ_none = λ v u p e q.
      ⊎_elim (λ t. t) (λ f. absurd (both_ways (is_amount (v +ℤ pos 1)) (succ_no v e) (between v u p q (lt_of v u f)))) (cases_Bool (int_le u v));
  window = λ a p. (parts a p).window;
  rule_total = λ a b p q h. both_total (required a) (barred a) (required b) (barred b) h;
  rule_trans = λ a b c p q r h i.
      let x = parts a p in
      let y = parts b q in
      let z = parts c r in
      both_trans (required a) (barred a) (required b) (barred b) (required c) (barred c) x.req y.req z.req x.bar y.bar z.bar h i;
  tie_grid = λ a b v p q s h. subst (λ (xs : List Fraction). is_on_grid (step xs) v ≡ true) (tie a b (parts a p) (parts b q) s).0 h;
  tie_admits = λ a b v p q s h.
      let t = tie a b (parts a p) (parts b q) s in
      subst (λ (ys : List Fraction). (is_amount v && admitted (required b) ys (unsigned_abs v)) ≡ true) t.1
      (subst (λ (xs : List Fraction). (is_amount v && admitted xs (barred a) (unsigned_abs v)) ≡ true) t.0 h);
  tie_equal = λ a b p q s d e. tie_equal a b (parts a p) (parts b q) s d e;
  grid_value = λ a v p h. (and_parts (is_amount v) (unsigned_abs v % step (required a) == 0) h).0;
  admits_grid = λ a v p h. admits_grid a v h;
  next_grid = λ a v w p q e. next_grid (step (required a)) v w (step_pos (required a)) q e;
  next_least = λ a v w u p q e g h. next_least (step (required a)) v w u (step_pos (required a)) q e g h;
  next_none = λ a v u p q e g. next_none (step (required a)) v u (step_pos (required a)) q e g;
  blank_lawful = blank_lawful;
  joins = λ a b p q. joined a b p q;
  covers_refl = λ a b p q s. covers_refl a b (parts a p) (parts b q) s;
  covers_trans = λ a b c p q r h i. covers_trans a b c (parts a p) (parts c r) h i;
  covers_anti = λ a b p q h i. covers_anti a b (parts a p) (parts b q) h i;
  covers_admits = λ a b v p q h i. covers_admits a b v (parts a p) (parts b q) h i;
  layouts = λ b. layout_laws;
  written_lawful = λ b. written_lawful;
  meant = λ b w v f p. leaf_meant w f v p;
  refusals = refusals;
}
