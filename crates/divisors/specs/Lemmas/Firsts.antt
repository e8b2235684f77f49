-- What a search finds first; the first join and the first strip.
use Rattle.std.proofs.Common.{◌≡◌, ℕ, zero, suc, ◌+◌, ◌-◌, ◌<◌, ◌≤◌, eqb, List, length, get_or, Some, None, Option, sym, refl, ap, ◌∙◌, subst, ⊎_elim, arith, MatchOption}
use Rattle.std.specs.Option.{option_map}
use Rattle.std.proofs.lemmas.Bool.{cases_order, cases_eq, cond-false, cond_both, ne_eqb, eqb-false}
use Rattle.std.proofs.lemmas.Option.{MatchOption-at_some, MatchOption-at_none}
use Rattle.divisors.specs.declared.folding.Pair.{Pair}
use Rattle.divisors.specs.declared.folding.Strip.{Strip}
use Rattle.divisors.specs.declared.fraction.Fraction.{Fraction}
use Rattle.divisors.specs.Folding.{Apart, Firm, FirstJoin, FirstStrip, NoJoin, NoStrip, first_from, first_join_of, first_strip_of, join_at, or_else, strip_at}
use Rattle.divisors.specs.Fractions.{none}
use Rattle.divisors.specs.Joining.{join_of, strip_by}

pub clash : {A : Type 0} (o : Option A) (x : A) → o ≡ None → o ≡ Some x → ⊥
clash o x e f = let z : ◌≡◌ {A = ℕ} 0 1 = cc in omega arith

pub mapped_none : {A B : Type 0} (f : A → B) (o : Option A) → option_map f o ≡ None → o ≡ None
mapped_none f None e = refl
mapped_none f (Some x) e = absurd (clash (Some (f x)) (f x) e refl)

pub mapped_some : {A B : Type 0} (f : A → B) (o : Option A) (y : B) → option_map f o ≡ Some y → (x : A) × (o ≡ Some x) × (f x ≡ y)
mapped_some f None y e = absurd (clash None y refl e)
mapped_some f (Some x) y e = (x, refl, cc)

module _ {A : Type 0} (f : ℕ → Option A) where
  -- nothing among n from i on
  abbrev Nowhere : ℕ → ℕ → Type 0
  Nowhere i n = (j : ℕ) → i ≤ j → j < i + n → f j ≡ None

  -- x at some j, and nothing before
  abbrev Somewhere : ℕ → ℕ → A → Type 0
  Somewhere i n x = (j : ℕ) × (i ≤ j) × (j < i + n) × (f j ≡ Some x) × ((m : ℕ) → i ≤ m → m < j → f m ≡ None)

  later : (i n : ℕ) → f i ≡ None → (o : Option A) → MatchOption o (Nowhere (suc i) n) (Somewhere (suc i) n) → MatchOption o (Nowhere i (suc n)) (Somewhere i (suc n))
  later i n e None h = λ j a b. ⊎_elim (λ k. ap f k ∙ e) (λ k. h j (omega arith) (omega arith)) (cases_eq j i)
  later i n e (Some x) h =
      (h.0, omega (arith, h.1), omega (arith, h.2), h.3, λ m a b. ⊎_elim (λ k. ap f k ∙ e) (λ k. h.4 m (omega arith) b) (cases_eq m i))

  pub finds : (i n : ℕ) → MatchOption (first_from f i n) (Nowhere i n) (Somewhere i n)
  finds i zero = λ j a b. absurd (omega arith)
  finds i (suc n) = go (f i) refl (finds (suc i) n)
    where
      go : (o : Option A) → f i ≡ o → MatchOption (first_from f (suc i) n) (Nowhere (suc i) n) (Somewhere (suc i) n) → MatchOption (or_else o (first_from f (suc i) n)) (Nowhere i (suc n)) (Somewhere i (suc n))
      go (Some x) e h = (i, omega arith, omega arith, e, λ m a b. absurd (omega arith))
      go None e h = later i n e (first_from f (suc i) n) h

  pub found : (i n : ℕ) (x : A) → first_from f i n ≡ Some x → (j : ℕ) × (i ≤ j) × (j < i + n) × (f j ≡ Some x) × ((m : ℕ) → i ≤ m → m < j → f m ≡ None)
  found i n x e = MatchOption-at_some (Nowhere i n) (Somewhere i n) x e (finds i n)

  pub absent : (i n : ℕ) → first_from f i n ≡ None → (j : ℕ) → i ≤ j → j < i + n → f j ≡ None
  absent i n e = MatchOption-at_none (Nowhere i n) (Somewhere i n) e (finds i n)

-- the first join
module _ (xs : List Fraction) where
  apart : (l r : ℕ) → join_at xs l r ≡ None → Apart xs l r
  apart l r e = mapped_none (λ j. record { left = l; right = r; join = j }) (join_of (get_or xs l none) (get_or xs r none)) e

  apart_all : (l : ℕ) → first_from (join_at xs l) (suc l) (length xs - suc l) ≡ None → (k : ℕ) → l < k → k < length xs → Apart xs l k
  apart_all l e k a b = apart l k (absent (join_at xs l) (suc l) (length xs - suc l) e k (omega arith) (omega arith))

  pub no_join : first_join_of xs ≡ None → NoJoin xs
  no_join e i k a b = apart_all i (absent (λ l. first_from (join_at xs l) (suc l) (length xs - suc l)) 0 (length xs) e i (omega arith) (omega arith)) k a b

  pub first_join : (t : Pair) → first_join_of xs ≡ Some t → FirstJoin xs t
  first_join t e =
      let u = found (λ l. first_from (join_at xs l) (suc l) (length xs - suc l)) 0 (length xs) t e in
      let l = u.0 in
      let w = found (join_at xs l) (suc l) (length xs - suc l) t u.3 in
      let r = w.0 in
      let m = mapped_some (λ j. record { left = l; right = r; join = j }) (join_of (get_or xs l none) (get_or xs r none)) t w.3 in
      subst (FirstJoin xs) m.2
      (record {
        ordered = omega (arith, w.1);
        within = omega (arith, w.2);
        joins = m.1;
        rows_before = λ i k a b d. apart_all i (u.4 i (omega arith) a) k b d;
        row_before = λ k a b. apart l k (w.4 k (omega arith) b);
      })

  -- the first strip
  firm : (a b : ℕ) → (a ≡ b → ⊥) → strip_at xs a b ≡ None → Firm xs a b
  firm a b n e =
      mapped_none (λ f. record { at = a; by = b; left = f }) (strip_by (get_or xs a none) (get_or xs b none))
      (sym (cond-false (eqb a b) None (option_map {T = Fraction} {U = Strip} (λ f. record { at = a; by = b; left = f }) (strip_by (get_or xs a none) (get_or xs b none))) (ne_eqb a b n)) ∙ e)

  firm_all : (a : ℕ) → first_from (strip_at xs a) 0 (length xs) ≡ None → (b : ℕ) → b < length xs → (a ≡ b → ⊥) → Firm xs a b
  firm_all a e b h n = firm a b n (absent (strip_at xs a) 0 (length xs) e b (omega arith) (omega arith))

  pub no_strip : first_strip_of xs ≡ None → NoStrip xs
  no_strip e i k a b n = firm_all i (absent (λ a. first_from (strip_at xs a) 0 (length xs)) 0 (length xs) e i (omega arith) (omega arith)) k b n

  other : (a b : ℕ) (t : Strip) → strip_at xs a b ≡ Some t → (a ≡ b → ⊥) × (option_map (λ f. record { at = a; by = b; left = f }) (strip_by (get_or xs a none) (get_or xs b none)) ≡ Some t)
  other a b t =
      cond_both (eqb a b) None (option_map (λ f. record { at = a; by = b; left = f }) (strip_by (get_or xs a none) (get_or xs b none)))
      (λ o. o ≡ Some t → (a ≡ b → ⊥) × (option_map (λ f. record { at = a; by = b; left = f }) (strip_by (get_or xs a none) (get_or xs b none)) ≡ Some t))
      (λ _ e. absurd (clash None t refl e)) (λ n e. (eqb-false a b n, e))

  pub first_strip : (t : Strip) → first_strip_of xs ≡ Some t → FirstStrip xs t
  first_strip t e =
      let u = found (λ a. first_from (strip_at xs a) 0 (length xs)) 0 (length xs) t e in
      let a = u.0 in
      let w = found (strip_at xs a) 0 (length xs) t u.3 in
      let b = w.0 in
      let o = other a b t w.3 in
      let m = mapped_some (λ f. record { at = a; by = b; left = f }) (strip_by (get_or xs a none) (get_or xs b none)) t o.1 in
      subst (FirstStrip xs) m.2
      (record {
        within = omega (arith, u.2);
        by_within = omega (arith, w.2);
        other = o.0;
        strips = m.1;
        rows_before = λ i k c d n. firm_all i (u.4 i (omega arith) c) k d n;
        row_before = λ k c n. firm a k n (w.4 k (omega arith) c);
      })

  -- there is one first join, and one first strip
  pub one_join : (t u : Pair) → FirstJoin xs t → FirstJoin xs u → t ≡ u
  one_join t u f g =
      ⊎_elim
      (λ l.
      ⊎_elim
      (λ r.
      let j : t.join ≡ u.join = some_same (sym f.joins ∙ ap (λ (k : ℕ). join_of (get_or xs k none) (get_or xs t.right none)) l ∙ ap (λ (k : ℕ). join_of (get_or xs u.left none) (get_or xs k none)) r ∙ g.joins) in
      λ i. record { left = l i; right = r i; join = j i })
      (λ s.
      absurd
      (⊎_elim
      (λ b. clash (join_of (get_or xs u.left none) (get_or xs t.right none)) t.join (g.row_before t.right (omega (arith, f.ordered)) b) (subst (λ (k : ℕ). join_of (get_or xs k none) (get_or xs t.right none) ≡ Some t.join) l f.joins))
      (λ b. clash (join_of (get_or xs t.left none) (get_or xs u.right none)) u.join (f.row_before u.right (omega (arith, g.ordered)) b) (subst (λ (k : ℕ). join_of (get_or xs k none) (get_or xs u.right none) ≡ Some u.join) (sym l) g.joins)) s))
      (cases_order t.right u.right))
      (λ s.
      absurd
      (⊎_elim
      (λ b. clash (join_of (get_or xs t.left none) (get_or xs t.right none)) t.join (g.rows_before t.left t.right b f.ordered f.within) f.joins)
      (λ b. clash (join_of (get_or xs u.left none) (get_or xs u.right none)) u.join (f.rows_before u.left u.right b g.ordered g.within) g.joins) s))
      (cases_order t.left u.left)
    where
      some_same : {x y : Fraction} → Some x ≡ Some y → x ≡ y
      some_same e = cc

  pub one_strip : (t u : Strip) → FirstStrip xs t → FirstStrip xs u → t ≡ u
  one_strip t u f g =
      ⊎_elim
      (λ l.
      ⊎_elim
      (λ r.
      let j : t.left ≡ u.left = some_same (sym f.strips ∙ ap (λ (k : ℕ). strip_by (get_or xs k none) (get_or xs t.by none)) l ∙ ap (λ (k : ℕ). strip_by (get_or xs u.at none) (get_or xs k none)) r ∙ g.strips) in
      λ i. record { at = l i; by = r i; left = j i })
      (λ s.
      absurd
      (⊎_elim
      (λ b. clash (strip_by (get_or xs u.at none) (get_or xs t.by none)) t.left (g.row_before t.by b (λ e. f.other (l ∙ e))) (subst (λ (k : ℕ). strip_by (get_or xs k none) (get_or xs t.by none) ≡ Some t.left) l f.strips))
      (λ b. clash (strip_by (get_or xs t.at none) (get_or xs u.by none)) u.left (f.row_before u.by b (λ e. g.other (sym l ∙ e))) (subst (λ (k : ℕ). strip_by (get_or xs k none) (get_or xs u.by none) ≡ Some u.left) (sym l) g.strips)) s))
      (cases_order t.by u.by))
      (λ s.
      absurd
      (⊎_elim
      (λ b. clash (strip_by (get_or xs t.at none) (get_or xs t.by none)) t.left (g.rows_before t.at t.by b f.by_within f.other) f.strips)
      (λ b. clash (strip_by (get_or xs u.at none) (get_or xs u.by none)) u.left (f.rows_before u.at u.by b g.by_within g.other) g.strips) s))
      (cases_order t.at u.at)
    where
      some_same : {x y : Fraction} → Some x ≡ Some y → x ≡ y
      some_same e = cc
