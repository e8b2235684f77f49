-- What the layout of amount leaves shows: what its fields make is what is written in them.
use Rattle.std.specs.Prelude.{◌≡◌, ℕ, zero, suc, ◌^◌, ◌<◌, Bool, true, false, cond, ◌&&◌, List, [], ◌∷◌, ◌++◌, length, map, ℤ, pos, negsuc, neg_ℤ, Some, None, Option, is_some, ⊤, unsigned_abs, nat_le, nat_lt, ◌==◌, refl}
use Rattle.std.proofs.Common.{sym, ap, subst, ◌∙◌, arith}
use Rattle.std.proofs.lemmas.Bool.{and_from, and_parts, cond_both, cond-true, eqb-false, leb-true, ltb-true, true≢false}
use Rattle.divisors.specs.declared.fraction.Fraction.{Fraction}
use Rattle.divisors.specs.declared.row.Row.{Row}
use Rattle.divisors.specs.Fractions.{in_range}
use Rattle.divisors.specs.Lawful.{kept_laws}
use Rattle.divisors.specs.Rows.{fractions, row_of}
use Rattle.divisors.specs.Written.{FoldOf, ThinOf, are_in_range, barred_of, refusal_of, required_of}
use Rattle.faults.specs.Faults.{found, unplaced}
use Rattle.leaf.specs.Kind.{Lawful, is_value_window}
use Rattle.leaf.specs.Layouts.{LayoutLaws, is_of_field, is_written_window, written_leaf}
use Rattle.leaf.specs.Plans.{Makes, done, field, fits_if, made_at, repeat, then}
use Rattle.leaf.specs.Windows.{written}
use Rattle.leaf.specs.Laws.Fielded.{Numbered, unfit_flags, unfit_in}
use Rattle.leaf.specs.Laws.Flags.{agrees, agrees_is, agrees_self, is_signed, signed}
use Rattle.leaf.specs.Laws.Headed.{HeadedLaws, fitting, headed_laws}
use Rattle.leaf.specs.Laws.Parts.{Part, many_part, number_part, pair_part}
use Rattle.leaf.specs.Laws.Runs.{Says, says}
use Rattle.amounts.specs.declared.amount.WrittenAmount.{WrittenAmount}
use Rattle.amounts.specs.Amounts.{amounts}
use Rattle.amounts.specs.Grammar.{AmountRefusals}
use Rattle.amounts.specs.InRange.{amount_is}
use Rattle.amounts.specs.Layout.{Role, flags, magnitude, count, part, Written, amount, amount_fields, amount_layout, amount_table, both_lists, divisor, divisor_numbers, is_list, is_part, is_written, list, list_numbers, lists, sign_of}
use Rattle.amounts.specs.Leaves.{is_bound, is_window, leaf_of}
use Rattle.amounts.specs.Makes.{lawful_leaf}
use Rattle.amounts.specs.Making.{amount_in}
use Rattle.amounts.specs.Meaning.{Means, WrittenMeans}
use Rattle.amounts.specs.Words.{value_of}
use Rattle.amounts.specs.Means.{leaf_means}
use Rattle.amounts.specs.Values.{amount_of, is_amount}
use Rattle.leaf.specs.Numbers.{are_flags}

none_some : {A : Type 0} {x : A} → None ≡ Some x → ⊥
none_some e = let q : ◌≡◌ {A = ℕ} 0 1 = cc in omega (arith, q)

abbrev is_negative : ℤ → Bool
is_negative (pos m) = false
is_negative (negsuc m) = true

-- an amount that a magnitude and a sign write has that magnitude and that sign
below_zero : (m : ℕ) → (m ≡ 0 → ⊥) → (unsigned_abs (neg_ℤ (pos m)) ≡ m) × (is_negative (neg_ℤ (pos m)) ≡ true)
below_zero zero n = absurd (n refl)
below_zero (suc m) n = (refl, refl)

amount_parts : (negative : Bool) (m : ℕ) (z : ℤ) → amount_of negative m ≡ Some z → (unsigned_abs z ≡ m) × (is_negative z ≡ negative)
amount_parts false m z =
    cond_both (nat_lt m (2 ^ 63)) (Some (pos m)) None (λ o. o ≡ Some z → (unsigned_abs z ≡ m) × (is_negative z ≡ false))
    (λ t e. let k : pos m ≡ z = cc in subst (λ (x : ℤ). (unsigned_abs x ≡ m) × (is_negative x ≡ false)) k (refl, refl))
    (λ t e. absurd (none_some e))
amount_parts true m z =
    cond_both (m == 0) None (cond (nat_le m (2 ^ 63)) (Some (neg_ℤ (pos m))) None) (λ o. o ≡ Some z → (unsigned_abs z ≡ m) × (is_negative z ≡ true))
    (λ t e. absurd (none_some e))
    (λ n.
    cond_both (nat_le m (2 ^ 63)) (Some (neg_ℤ (pos m))) None (λ o. o ≡ Some z → (unsigned_abs z ≡ m) × (is_negative z ≡ true))
    (λ t e. let k : neg_ℤ (pos m) ≡ z = cc in subst (λ (x : ℤ). (unsigned_abs x ≡ m) × (is_negative x ≡ true)) k (below_zero m (eqb-false m 0 n)))
    (λ t e. absurd (none_some e)))

-- parts in range are a divisor in range
in_range_of : (p q : ℕ) → is_part p ≡ true → is_part q ≡ true → in_range (record { p = p; q = q }) ≡ true
in_range_of p q h g =
    let (a, b) = and_parts (nat_lt 0 p) (nat_lt p (2 ^ 63)) h in
    and_from (nat_lt 0 p) (nat_lt p (2 ^ 63) && (nat_lt 0 q && nat_lt q (2 ^ 63))) a (and_from (nat_lt p (2 ^ 63)) (nat_lt 0 q && nat_lt q (2 ^ 63)) b g)

parts_of : (f : Fraction) → in_range f ≡ true → (is_part f.p ≡ true) × (is_part f.q ≡ true)
parts_of f h =
    let (a, b) = and_parts (nat_lt 0 f.p) (nat_lt f.p (2 ^ 63) && (nat_lt 0 f.q && nat_lt f.q (2 ^ 63))) h in
    let (c, d) = and_parts (nat_lt f.p (2 ^ 63)) (nat_lt 0 f.q && nat_lt f.q (2 ^ 63)) b in
    (and_from (nat_lt 0 f.p) (nat_lt f.p (2 ^ 63)) a c, d)

own : (r : Role) → is_of_field (amount_table.refusal r) ≡ true
own flags = refl
own (magnitude negative) = refl
own count = refl
own part = refl

-- an amount is its magnitude under its sign
magnitude_below : (negative : Bool) (m : ℕ) → is_some (amount_of negative m) ≡ true → m < 2 ^ 64
magnitude_below negative m h = grind arith

amounts_parts : (n : Bool) → Part amount_table (amount n) (λ w. w.magnitude ∷ []) (is_signed amount_fields sign_of n) amount_in
unfolding amount
amounts_parts n = record {
  stood = λ s at o end (m, size, w, (q, h)). (record { magnitude = m; negative = n }, and_from (is_some (amount_of n m)) (agrees n n) w.fits (agrees_self n), q, (size, w.stands, h));
  makes = λ s at w end h (size, c, r).
      let (a, b) = and_parts (is_written w) (agrees n w.negative) h in
      let e = ap (λ (k : Bool). amount_of k w.magnitude) (agrees_is n w.negative b) in
      (w.magnitude, size, record { stands = c; fits = ap is_some e ∙ a }, (e, r));
  below = λ w h. (magnitude_below w.negative w.magnitude (and_parts (is_written w) (agrees n w.negative) h).0, tt);
}

valued : (w : WrittenAmount) → is_written w ≡ true → (v : ℤ) × (amount_in w ≡ Some v)
valued w h = by (amount_in w) refl
  where
    by : (o : Option ℤ) → amount_in w ≡ o → (v : ℤ) × (amount_in w ≡ Some v)
    by None e = absurd (true≢false (sym h ∙ ap is_some e))
    by (Some v) e = (v, e)

same_amount : (w v : WrittenAmount) → is_written w ≡ true → is_written v ≡ true → amount_in w ≡ amount_in v → w ≡ v
same_amount w v h g e =
    let (z, q) = valued v g in
    let (a, b) = amount_parts w.negative w.magnitude z (e ∙ q) in
    let (c, d) = amount_parts v.negative v.magnitude z q in
    λ i. record { magnitude = (sym a ∙ c) i; negative = (sym b ∙ d) i }

part_below : (n : ℕ) → is_part n ≡ true → n < 2 ^ 64
part_below n h = let l = ltb-true n (2 ^ 63) (and_parts (nat_lt 0 n) (nat_lt n (2 ^ 63)) h).1 in omega arith

count_below : (n : ℕ) → nat_le n 6 ≡ true → n < 2 ^ 64
count_below n h = let l = leb-true n 6 h in omega arith

-- a divisor is two parts, and a list a count and so many divisors
a_part : Part amount_table (field part) (λ n. n ∷ []) is_part (λ n. n)
a_part = number_part amount_table part refl part_below

a_divisor : Part amount_table divisor divisor_numbers in_range (λ f. f)
a_divisor =
    let two = pair_part amount_table (λ p q. let f : Fraction = record { p = p; q = q } in f) a_part a_part in
    record {
      stood = λ s at f end h. let ((p, q), c, e, r) = two.stood s at f end h in let (a, b) = and_parts (is_part p) (is_part q) c in (record { p = p; q = q }, in_range_of p q a b, e, r);
      makes = λ s at f end h r. let (a, b) = parts_of f h in two.makes s at (f.p, f.q) end (and_from (is_part f.p) (is_part f.q) a b) r;
      below = λ f h. let (a, b) = parts_of f h in two.below (f.p, f.q) (and_from (is_part f.p) (is_part f.q) a b);
    }

map_same : (fs : List Fraction) → map (λ f. f) fs ≡ fs
map_same [] = refl
map_same (f ∷ fs) = ap (λ xs. f ∷ xs) (map_same fs)

a_list : Part amount_table list list_numbers is_list (λ fs. fs)
unfolding list
a_list =
    let many = many_part amount_table a_divisor count refl count_below in
    record {
      stood = λ s at fs end h. let (ws, c, e, r) = many.stood s at fs end h in (ws, c, sym (map_same ws) ∙ e, r);
      makes = λ s at fs end h r. subst (λ xs. Makes amount_table s list at xs end) (map_same fs) (many.makes s at fs end h r);
      below = many.below;
    }

both : Part amount_table {W = List Fraction × List Fraction} lists (λ w. list_numbers w.0 ++ list_numbers w.1) (λ w. is_list w.0 && is_list w.1) (λ w. w)
both = pair_part amount_table (λ ws us. (ws, us)) a_list a_list

field_laws : HeadedLaws amount_fields (is_signed amount_fields sign_of)
field_laws = record {
  own = own;
  shape = refl;
  flag = signed amount_fields sign_of (λ f. refl) (λ low high. refl);
  bounds = amounts_parts;
  rest = both;
  valued = valued;
  same_bound = same_amount;
  same_rest = λ p q h g e. e;
}

pub layout_laws : LayoutLaws amount_layout
layout_laws = headed_laws amount_fields field_laws is_window (λ bounds p. leaf_of bounds.minimum bounds.maximum p.0 p.1)

folds : (ws : List Fraction) → are_in_range ws ≡ true → FoldOf ws (fractions (row_of (required_of ws)))
folds ws h = subst (FoldOf ws) (sym (kept_laws.list (required_of ws))) (kept_laws.folds ws h)

thins : (us : List Fraction) → are_in_range us ≡ true → ThinOf us (fractions (row_of (barred_of us)))
thins us h = subst (ThinOf us) (sym (kept_laws.list (barred_of us))) (kept_laws.thins us h)

leaf_lawful : (low high : Option ℤ) (ws us : List Fraction) → is_value_window amounts low high ≡ true → refusal_of ws ≡ None → refusal_of us ≡ None → Lawful amounts (leaf_of low high ws us)
leaf_lawful low high ws us w h g = lawful_leaf low high (row_of (required_of ws)) (row_of (barred_of us)) w (kept_laws.folded ws h) (kept_laws.thinned us g)

pub blank_lawful : Lawful amounts (leaf_of None None [] [])
blank_lawful = leaf_lawful None None [] [] refl refl refl

pub leaf_of_means : (low high : Option ℤ) (ws us : List Fraction) → are_in_range ws ≡ true → are_in_range us ≡ true → Means low high ws us (leaf_of low high ws us)
leaf_of_means low high ws us h g = leaf_means (leaf_of low high ws us) ws us (folds ws h) (thins us g)

-- nothing is refused of the lists of a leaf as written
list_taken : (ws : List Fraction) → is_list ws ≡ true → refusal_of ws ≡ None
list_taken ws h =
    let (a, b) = and_parts (are_in_range ws) (nat_le (length ws) 6) h in
    cond-true (are_in_range ws) (cond (nat_le (length ws) 6) None (Some (unplaced 6))) (Some (unplaced 5)) a ∙ cond-true (nat_le (length ws) 6) None (Some (unplaced 6)) b

pub written_lawful : (w : Written) → amount_layout.fits w ≡ true → is_written_window amount_layout w ≡ true → Lawful amounts (written_leaf amount_layout w)
written_lawful w f t =
    let (a, b, c) = fitting amount_fields field_laws w f in
    let (i, j) = and_parts (is_list w.rest.0) (is_list w.rest.1) c in
    leaf_lawful (written amount_in w.low) (written amount_in w.high) w.rest.0 w.rest.1 (windowed (written amount_in w.low) (written amount_in w.high) (bounded w.low a) (bounded w.high b) t) (list_taken w.rest.0 i) (list_taken w.rest.1 j)
  where
    bounded : (o : Option WrittenAmount) → fits_if is_written o ≡ true → is_bound (written amount_in o) ≡ true
    bounded None h = refl
    bounded (Some w) h = let (v, e) = valued w h in ap is_bound e ∙ amount_is w.negative w.magnitude v e

    windowed : (x y : Option ℤ) → is_bound x ≡ true → is_bound y ≡ true → is_window x y ≡ true → is_value_window amounts x y ≡ true
    windowed None None p q r = r
    windowed None (Some y) p q r = and_from (is_amount y) true q r
    windowed (Some x) None p q r = and_from (is_amount x) true p r
    windowed (Some x) (Some y) p q r = and_from (is_amount x) (is_amount y && is_window (Some x) (Some y)) p (and_from (is_amount y) (is_window (Some x) (Some y)) q r)

-- a leaf as written admits what is written
pub leaf_meant : (w : Written) → amount_layout.fits w ≡ true → Means (value_of w.low) (value_of w.high) w.rest.0 w.rest.1 (written_leaf amount_layout w)
leaf_meant w f =
    let (i, j) = and_parts (is_list w.rest.0) (is_list w.rest.1) (fitting amount_fields field_laws w f).2 in
    leaf_of_means (value_of w.low) (value_of w.high) w.rest.0 w.rest.1 (and_parts (are_in_range w.rest.0) (nat_le (length w.rest.0) 6) i).0 (and_parts (are_in_range w.rest.1) (nat_le (length w.rest.1) 6) j).0

pub written_means : WrittenMeans
unfolding WrittenMeans
written_means = leaf_meant

-- which fields give which refusal
numbered_divisors : (k : ℕ) → Numbered amount_table (repeat divisor k)
numbered_divisors zero = tt
numbered_divisors (suc k) = (((refl, λ _ _. tt), λ _. ((refl, λ _ _. tt), λ _. tt)), λ _. (numbered_divisors k, λ _. tt))

numbered_list : Numbered amount_table list
unfolding list
numbered_list = (refl, λ _ n. numbered_divisors n)

numbered_amount : (n : Bool) → Numbered amount_table (amount n)
unfolding amount
numbered_amount n = (refl, λ _ _. tt)

pub refusals : (s : List ℕ) → AmountRefusals s
refusals s = record {
  four = λ at. unfit_flags amount_table s flags amount (λ b. then lists (λ p. done (record { bounds = b; rest = p }))) at (are_flags true) 4 (λ _. refl) refl refl refl numbered_amount (λ b. ((numbered_list, λ _. (numbered_list, λ _. tt)), λ _. tt)) four;
  five = λ at. unfit_in amount_table s amount_layout.plan at (λ (_ : ⊤). part) (λ _. is_part) 5 (λ _ _. refl) (λ _. refl) (λ _. refl) five;
  six = λ at. unfit_in amount_table s amount_layout.plan at (λ (_ : ⊤). count) (λ _ n. nat_le n 6) 6 (λ _ _. refl) (λ _. refl) (λ _. refl) six;
  seven = λ at. unfit_in amount_table s amount_layout.plan at magnitude (λ negative m. is_some (amount_of negative m)) 7 (λ _ _. refl) (λ _. refl) (λ _. refl) seven;
  nine = λ at p u. nine u.field u.refusal_is;
}
  where
    four : (q : Role) → 4 ≡ amount_table.refusal q → q ≡ flags
    four flags e = refl
    four (magnitude n) e = absurd (omega (arith, e))
    four count e = absurd (omega (arith, e))
    four part e = absurd (omega (arith, e))

    five : (q : Role) (n : ℕ) → 5 ≡ amount_table.refusal q → amount_table.fits q n ≡ false → ⊤ × (q ≡ part)
    five flags n e f = absurd (omega (arith, e))
    five (magnitude s) n e f = absurd (omega (arith, e))
    five count n e f = absurd (omega (arith, e))
    five part n e f = (tt, refl)

    six : (q : Role) (n : ℕ) → 6 ≡ amount_table.refusal q → amount_table.fits q n ≡ false → ⊤ × (q ≡ count)
    six flags n e f = absurd (omega (arith, e))
    six (magnitude s) n e f = absurd (omega (arith, e))
    six count n e f = (tt, refl)
    six part n e f = absurd (omega (arith, e))

    seven : (q : Role) (n : ℕ) → 7 ≡ amount_table.refusal q → amount_table.fits q n ≡ false → (negative : Bool) × (q ≡ magnitude negative)
    seven flags n e f = absurd (omega (arith, e))
    seven (magnitude s) n e f = (s, refl)
    seven count n e f = absurd (omega (arith, e))
    seven part n e f = absurd (omega (arith, e))

    nine : (q : Role) → 9 ≡ amount_table.refusal q → ⊥
    nine flags e = omega (arith, e)
    nine (magnitude s) e = omega (arith, e)
    nine count e = omega (arith, e)
    nine part e = omega (arith, e)

-- nor of those that were read
pub lists_taken :
    (s : List ℕ) (at : ℕ) (rows : Row × Row) (e : ℕ) → found (both_lists rows) e ≡ made_at amount_table lists s at →
    (refusal_of (fractions rows.0) ≡ None) × (refusal_of (fractions rows.1) ≡ None)
lists_taken s at rows e q =
    let (w, f, i, r) = both.stood s at (both_lists rows) e (subst (Says amount_table s lists at) (sym q) (says amount_table s lists at)) in
    let (a, b) = and_parts (is_list w.0) (is_list w.1) f in
    let l = ap (λ (p : List Fraction × List Fraction). p.0) i in
    let h = ap (λ (p : List Fraction × List Fraction). p.1) i in
    (ap refusal_of (sym l) ∙ list_taken w.0 a, ap refusal_of (sym h) ∙ list_taken w.1 b)
