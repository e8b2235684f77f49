-- A reading as a relation: it holds of what is read, and has one answer.
use Rattle.std.proofs.Common.{◌≡◌, true, ◌⊎◌, ◌↔◌, List, sym, subst, inl, inr}
use Rattle.std.proofs.lemmas.Bool.{cases_Bool, both_ways}
use Rattle.leaf.specs.Kind.{Kind, Laws as KindLaws, Lawful, same_rule, admits, covers}
use Rattle.leaf.specs.Kind.Ext.{value}
use Rattle.list.specs.Lists.{All, Any, In, Pairs}
use Rattle.list.specs.Readings.{InWindow, Holds, Merged, Uncovered, Reads, OneReading}
use Rattle.list.specs.Readings
use Rattle.list.specs.Runs.{reading, Admitted}
use Rattle.list.proofs.Core.{Ops, Laws, Le, Lt, Ok, Same, Within, Apart, Up, Inside, Made}
use Rattle.list.proofs.Rows.{all_map, all_map2, all_in, all_from, any_map, any_map2, any_out, any_in, pairs_two, next_or_last, pairs_unique}
use Rattle.list.proofs.Order.{le_refl, lt_le, lt_not_le}
use Rattle.list.proofs.TwoLeaves
use Rattle.list.proofs.Joined.{J, joined_ok, joined_apart, joined_holds}
use Rattle.list.proofs.Made.{made_own, made_trans, joined_made}
use Rattle.list.proofs.Kept.{all_kept, kept_own, own_kept}
use Rattle.list.proofs.Reading.{cov_Cov, cov_inside, pairs_map, joined_single, reading_apart, reading_ok}
use Rattle.list.proofs.OverKinds.{ops, laws, admits_parts, admits_from, from_apart, to_apart, from_within, to_within, from_made, to_made}
use Rattle.list.proofs.Pouring.{Rowed}

module _ {E L : Type 0} (o : Ops E L) (k : Laws o) where
  -- what lies inside v, where v stands no later than t, lies no higher than t
  behind : (v t : L) (e : E) → Ok o t → Same o v t → Inside o v e → (v ≡ t) ⊎ Apart o v t → Le o e (o.hi t)
  behind v t e p s i (inl d) = subst (λ (z : L). Le o e (o.hi z)) d i.1
  behind v t e p s i (inr (inl f)) = absurd (both_ways (o.rle t v) f s.1)
  behind v t e p s i (inr (inr g)) = k.le_trans _ _ _ i.1 (k.le_trans _ _ _ (lt_le o k _ _ g.1.2) (k.le_trans _ _ _ (lt_le o k _ _ g.1.3) (k.window t p)))

  -- at y or after it
  ahead : (y v : L) → Ok o y → Ok o v → (y ≡ v) ⊎ Apart o y v → Up o y v
  ahead y v p q (inl e) = subst (Up o y) e (TwoLeaves.rle_refl o k y p, λ _. le_refl o k (o.lo y))
  ahead y v p q (inr d) = TwoLeaves.apart_later o k y v p q d

  -- one of T with j's rule that has e inside
  abbrev Holder : List L → L → E → Type 0
  Holder T j e = (t : L) × In t T × Ok o t × Same o j t × Inside o t e

  -- what is made of leaves lies within one of any windows T that are apart and hold the leaves
  least : (xs T : List L) → All (Ok o) xs → All (Ok o) T → Pairs (Apart o) T → All (λ x. Any (Within o x) T) xs → (j : L) → Ok o j → Made o xs j → Any (Within o j) T
  least xs T p q d h j r m =
      elim (cases_Bool (o.le (o.hi j) (o.hi low.0))) [
        | inl t ↦ any_in (Within o j) T low.0 low.1 (low.3, low.4.0, t)
        | inr f ↦ absurd (ends f (next_or_last (Apart o) T d low.0 low.1))
      ]
    where
      at : (e : E) → Any (λ x. Same o j x × Inside o x e) xs → Holder T j e
      at e i =
          let x = any_out (λ x. Same o j x × Inside o x e) xs i in
          let t = any_out (Within o x.0) T (all_in (λ x. Any (Within o x) T) xs h x.0 x.1) in
          let pt = all_in (Ok o) T q t.0 t.1 in
          (t.0, t.1, pt, TwoLeaves.same_trans o k j x.0 t.0 r (all_in (Ok o) xs p x.0 x.1) pt x.2.0 t.2.0, (k.le_trans _ _ _ t.2.1 x.2.1.0, k.le_trans _ _ _ x.2.1.1 t.2.2))

      low : Holder T j (o.lo j)
      low = at (o.lo j) (any_map2 (Ok o) (λ x. Same o j x × (o.lo j ≡ o.lo x)) _ (λ x px s. (s.0, subst (Inside o x) (sym s.1) (le_refl o k (o.lo x), k.window x px))) xs p m.0)

      high : Holder T j (o.hi j)
      high = at (o.hi j) (any_map2 (Ok o) (λ x. Same o j x × (o.hi j ≡ o.hi x)) _ (λ x px s. (s.0, subst (Inside o x) (sym s.1) (k.window x px, le_refl o k (o.hi x)))) xs p m.1)

      to_low : (e : E) (v : Holder T j e) → Same o v.0 low.0
      to_low e v = TwoLeaves.same_trans o k v.0 j low.0 v.2 r low.2 (TwoLeaves.same_sym o k j v.0 v.3) low.3

      -- low ends below e: what has e inside stands after low
      after_low : (e : E) → Lt o (o.hi low.0) e → (v : Holder T j e) → (v.0 ≡ low.0) ⊎ Apart o v.0 low.0 → ⊥
      after_low e f v z = lt_not_le o k _ _ f (behind v.0 low.0 e low.2 (to_low e v) v.4 z)

      -- no grid value parts low from the next, y, since j has it inside
      no_gap : (y : L) → Ok o y → Apart o low.0 y → Up o y high.0 → ((z : L) → In z T → ((z ≡ low.0) ⊎ Apart o z low.0) ⊎ ((y ≡ z) ⊎ Apart o y z)) → ⊥
      no_gap y py (inl f) u n = both_ways (o.rle y low.0) f (k.rle_trans y high.0 low.0 py high.2 low.2 u.0 (to_low (o.hi j) high).0)
      no_gap y py (inr g) u n =
          let e : E = g.1.0 in
          let over : (c : E) (v : Holder T j c) → o.rle v.0 y ≡ true = λ c v. k.rle_trans v.0 low.0 y v.2 low.2 py (to_low c v).0 g.0.0 in
          let v : Holder T j e = at e (m.2 e (k.same_grid low.0 j e low.2 r (TwoLeaves.same_sym o k j low.0 low.3) g.1.1) (
            k.le_trans _ _ _ low.4.1 (lt_le o k _ _ g.1.2),
            k.le_trans _ _ _ (lt_le o k _ _ g.1.3) (k.le_trans _ _ _ (u.1 (over (o.hi j) high)) high.4.0),
          )) in
          elim (n v.0 v.1) [
            | inl z ↦ after_low e g.1.2 v z
            | inr z ↦ lt_not_le o k _ _ g.1.3 (k.le_trans _ _ _ ((ahead y v.0 py v.2 z).1 (over e v)) v.4.0)
          ]

      ends : Lt o (o.hi low.0) (o.hi j) →
          ((z : L) → In z T → (z ≡ low.0) ⊎ Apart o z low.0) ⊎ ((y : L) × In y T × Apart o low.0 y × ((z : L) → In z T → ((z ≡ low.0) ⊎ Apart o z low.0) ⊎ ((y ≡ z) ⊎ Apart o y z))) → ⊥
      ends f (inl last) = after_low (o.hi j) f high (last high.0 high.1)
      ends f (inr n) =
          let py = all_in (Ok o) T q n.0 n.1 in
          elim (n.3 high.0 high.1) [ inl z ↦ after_low (o.hi j) f high z | inr z ↦ no_gap n.0 py n.2 (ahead n.0 high.0 py high.2 z) n.3 ]

  -- the leaves xs are joined to the windows js
  abbrev Merges : List L → List L → Type 0
  Merges xs js = All (Ok o) js × Pairs (Apart o) js × All (λ x. Any (Within o x) js) xs × All (Made o xs) js

  -- the same leaves, in whatever order, are joined to the same windows
  same_window : (xs ys i j : List L) → All (Ok o) xs → All (Ok o) ys → ((x : L) → In x xs ↔ In x ys) → Merges xs i → Merges ys j → (w : L) → In w i → In w j
  same_window xs ys i j p q f a b w h =
      let pw = all_in (Ok o) i a.0 w h in
      let v = any_out (Within o w) j (least xs j p b.0 b.1 (all_from (λ x. Any (Within o x) j) xs (λ x n. all_in (λ x. Any (Within o x) j) ys b.2 x ((f x).0 n))) w pw (all_in (Made o xs) i a.3 w h)) in
      let pv = all_in (Ok o) j b.0 v.0 v.1 in
      let u = any_out (Within o v.0) i (least ys i q a.0 a.1 (all_from (λ x. Any (Within o x) i) ys (λ x n. all_in (λ x. Any (Within o x) i) xs a.2 x ((f x).1 n))) v.0 pv (all_in (Made o ys) j b.3 v.0 v.1)) in
      subst (λ (z : L). In z j) (sym (back w v.0 u.0 pw pv h u.1 v.2 u.2)) v.1
    where
      same : (w u : L) → Ok o w → Ok o u → Within o w u → (w ≡ u) ⊎ (Apart o w u ⊎ Apart o u w) → w ≡ u
      same w u p q h (inl e) = e
      same w u p q h (inr (inl d)) = absurd (TwoLeaves.apart_within o k w u p q d h)
      same w u p q h (inr (inr d)) = absurd (TwoLeaves.apart_within_back o k u w q p d h)

      back : (w v u : L) → Ok o w → Ok o v → In w i → In u i → Within o w v → Within o v u → w ≡ v
      back w v u pw pv m n h g =
          let pu = all_in (Ok o) i a.0 u n in
          let e = same w u pw pu (TwoLeaves.within_trans o k w v u pw pv pu h g) (pairs_two (Apart o) i a.1 w u m n) in
          k.fuse w v pw pv h (subst (Within o v) (sym e) g)

  -- lists of windows apart with the same elements are equal
  apart_unique : (i j : List L) → All (Ok o) i → All (Ok o) j → Pairs (Apart o) i → Pairs (Apart o) j → ((x : L) → In x i → In x j) → ((x : L) → In x j → In x i) → i ≡ j
  apart_unique i j = pairs_unique (Apart o) (Ok o) (TwoLeaves.apart_irrefl o k) (TwoLeaves.apart_asym o k) i j

  merges_one : (xs ys i j : List L) → All (Ok o) xs → All (Ok o) ys → ((x : L) → In x xs ↔ In x ys) → Merges xs i → Merges ys j → i ≡ j
  merges_one xs ys i j p q f a b =
      apart_unique i j a.0 b.0 a.1 b.1 (same_window xs ys i j p q f a b) (same_window ys xs j i q p (λ x. ((f x).1, (f x).0)) b a)

module _ {V L : Type 0} (k : Kind V L) (w : KindLaws k) where
  -- what is made of leaves admits no more than they
  pub made_admits : (xs ys : List L) → All (Lawful k) xs → All (Lawful k) ys → All (Readings.Made k xs) ys → (v : V) → Admitted k ys v → Admitted k xs v
  made_admits xs ys p q h v i =
      let y = any_out (λ y. admits k y v ≡ true) ys i in
      let py = all_in (Lawful k) ys q y.0 y.1 in
      let a = admits_parts k w y.0 v y.2 in
      any_map2 (Lawful k) (λ x. (same_rule k y.0 x ≡ true) × InWindow k x v) (λ x. admits k x v ≡ true)
      (λ x px s. admits_from k w x v (w.tie_admits y.0 x v py px s.0 a.0) s.1) xs p
      ((all_in (Readings.Made k xs) ys h y.0 y.1).filled v (w.admits_grid y.0 v py a.0) a.1)

  -- what covers leaves admits no less
  pub covered_admits : (xs ys : List L) → All (Lawful k) xs → All (Lawful k) ys → All (λ x. Any (λ y. covers k y x ≡ true) ys) xs → (v : V) → Admitted k xs v → Admitted k ys v
  covered_admits xs ys p q h v i =
      let x = any_out (λ x. admits k x v ≡ true) xs i in
      let px = all_in (Lawful k) xs p x.0 x.1 in
      let a = admits_parts k w x.0 v x.2 in
      any_map2 (Lawful k) (λ y. covers k y x.0 ≡ true) (λ y. admits k y v ≡ true)
      (λ y py c. admits_from k w y v (w.covers_admits y x.0 v py px (cov_Cov (ops k) (laws k w) y x.0 c).0 a.0) (cov_inside (ops k) (laws k w) y x.0 (value v) c a.1))
      ys q (all_in (λ x. Any (λ y. covers k y x ≡ true) ys) xs h x.0 x.1)

  -- the reading of a row with the leaves xs
  pub reads : (xs l : List L) → All (Lawful k) xs → Rowed k w l → ((x : L) → In x xs ↔ In x l) → Reads k xs (reading k l)
  reads xs l p r f = record {
    windows = j;
    merged = record {
      lawful = ok;
      apart = pairs_map (Lawful k) (Apart (ops k)) (Readings.Apart k) (λ a b _ _. from_apart k w a b) j ok (joined_apart (ops k) (laws k w) l r);
      held = all_from (λ x. Any (λ y. Holds k y x) j) xs (λ x i. any_map (Within (ops k) x) (λ y. Holds k y x) (λ y. from_within k w y x) j (joined_holds (ops k) (laws k w) l r x ((f x).0 i)));
      made = all_map2 (Lawful k) (Made (ops k) l) (Readings.Made k xs) (λ y py m. from_made k w xs y (made_trans (ops k) (laws k w) xs l p r.0 own y py m)) j ok (joined_made (ops k) (laws k w) l r);
    };
    uncovered = record {
      apart = pairs_map (Lawful k) (Apart (ops k)) (Readings.Apart k) (λ a b _ _. from_apart k w a b) (reading k l) (reading_ok (ops k) (laws k w) l r) (reading_apart (ops k) (laws k w) l r);
      those = λ y. (
        λ i. (all_in (λ x. In x j) (reading k l) (all_kept (covers k) (λ x. In x j) j (all_from (λ x. In x j) j (λ x i. i))) y i, all_in Alone (reading k l) (kept_own (covers k) j) y i),
        λ h. own_kept (covers k) j (joined_single (ops k) (laws k w) l r) y h.0 h.1,
      );
    };
  }
    where
      j : List L
      j = J (ops k) (laws k w) l

      ok : All (Lawful k) j
      ok = joined_ok (ops k) (laws k w) l r

      own : All (Made (ops k) xs) l
      own = all_from (Made (ops k) xs) l (λ x i. let n = (f x).1 i in made_own (ops k) (laws k w) xs x (all_in (Lawful k) xs p x n) n)

      Alone : L → Type 0
      Alone x = (y : L) → In y j → covers k y x ≡ true → y ≡ x

  merges : (xs js : List L) → Merged k xs js → Merges (ops k) (laws k w) xs js
  merges xs js h = (
    h.lawful,
    pairs_map (Lawful k) (Readings.Apart k) (Apart (ops k)) (λ a b _ _. to_apart k w a b) js h.lawful h.apart,
    all_map (λ x. Any (λ j. Holds k j x) js) (λ x. Any (Within (ops k) x) js) (λ x. any_map (λ j. Holds k j x) (Within (ops k) x) (λ j. to_within k w j x) js) xs h.held,
    all_map (Readings.Made k xs) (Made (ops k) xs) (to_made k w xs) js h.made,
  )

  uncovered_one : (js ys zs : List L) → All (Lawful k) js → Uncovered k js ys → Uncovered k js zs → ys ≡ zs
  uncovered_one js ys zs p a b =
      apart_unique (ops k) (laws k w) ys zs (ok ys a) (ok zs b) (apart ys a) (apart zs b) (λ y i. (b.those y).1 ((a.those y).0 i)) (λ y i. (a.those y).1 ((b.those y).0 i))
    where
      ok : (ys : List L) → Uncovered k js ys → All (Lawful k) ys
      ok ys a = all_from (Lawful k) ys (λ y i. all_in (Lawful k) js p y ((a.those y).0 i).0)

      apart : (ys : List L) → Uncovered k js ys → Pairs (Apart (ops k)) ys
      apart ys a = pairs_map (Lawful k) (Readings.Apart k) (Apart (ops k)) (λ a b _ _. to_apart k w a b) ys (ok ys a) a.apart

  pub one_reading : OneReading k
  one_reading xs ys vs ws p f a b =
      let q = all_from (Lawful k) ys (λ y i. all_in (Lawful k) xs p y ((f y).1 i)) in
      let e = merges_one (ops k) (laws k w) xs ys a.windows b.windows p q f (merges xs a.windows a.merged) (merges ys b.windows b.merged) in
      uncovered_one a.windows vs ws a.merged.lawful a.uncovered (subst (λ (js : List L). Uncovered k js ws) (sym e) b.uncovered)
