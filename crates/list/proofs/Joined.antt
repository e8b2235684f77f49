-- The join of neighbours in a list in order.
use Rattle.std.proofs.Common.{◌≡◌, true, false, List, [], ◌∷◌, sym, refl, ap, ◌∙◌, subst, inl, inr}
use Rattle.std.proofs.lemmas.Bool.{cases_Bool, cond_both, cond-false}
use Rattle.list.specs.Lists.{All, Any, In, Pairs, joined_on, joined}
use Rattle.list.proofs.Core.{Ops, Laws, Ok, Within, Apart, Up}
use Rattle.list.proofs.Rows.{all_map, all_map2}
use Rattle.list.proofs.TwoLeaves

module _ {E L : Type 0} (o : Ops E L) (k : Laws o) where
  abbrev pub J : List L → List L
  J l = joined o.touch o.join l

  abbrev pub Row : List L → Type 0
  Row l = All (Ok o) l × Pairs (Up o) l

  abbrev on : L → List L → List L
  on a l = joined_on o.touch o.join a l

  -- the row that is left once x has joined a
  joined_row : (a x : L) (xs : List L) → Row (a ∷ (x ∷ xs)) → o.touch a x ≡ true → Row (o.join a x ∷ xs)
  joined_row a x xs r t =
      let p = r.0.0 in
      let q = r.0.1.0 in
      let s = k.touch_same a x p q t in (
        (k.join_ok a x p q s, r.0.1.1),
        (all_map2 (Ok o) (Up o a) (Up o (o.join a x)) (λ y py u. TwoLeaves.up_join o k a x y p q py s u) xs r.0.1.1 r.1.0.1, r.1.1.1),
      )

  tail_row : (a : L) (xs : List L) → Row (a ∷ xs) → Row xs
  tail_row a xs r = (r.0.1, r.1.1)

  -- what holds of each leaf, and of the join of two that touch, holds of each line
  pub on_all :
      (P : L → Type 0) → ((a x : L) → Ok o a → Ok o x → Up o a x → o.touch a x ≡ true → P a → P x → P (o.join a x)) →
      (a : L) (xs : List L) → Row (a ∷ xs) → P a → All P xs → All P (on a xs)
  on_all P f a [] r h i = (h, tt)
  on_all P f a (x ∷ xs) r h i =
      cond_both (o.touch a x) (on (o.join a x) xs) (a ∷ on x xs) (All P)
      (λ t. on_all P f (o.join a x) xs (joined_row a x xs r t) (f a x r.0.0 r.0.1.0 r.1.0.0 t h i.0) i.1)
      (λ _. (h, on_all P f x xs (tail_row a (x ∷ xs) r) i.0 i.1))

  pub all_joined :
      (P : L → Type 0) → ((a x : L) → Ok o a → Ok o x → Up o a x → o.touch a x ≡ true → P a → P x → P (o.join a x)) →
      (l : List L) → Row l → All P l → All P (J l)
  all_joined P f [] r h = tt
  all_joined P f (a ∷ xs) r h = on_all P f a xs r h.0 h.1

  pub joined_ok : (l : List L) → Row l → All (Ok o) (J l)
  joined_ok l r = all_joined (Ok o) (λ a x p q u t _ _. k.join_ok a x p q (k.touch_same a x p q t)) l r r.0

  -- two neighbours that do not touch are apart
  next_apart : (a x : L) → Ok o a → Ok o x → Up o a x → o.touch a x ≡ false → Apart o a x
  next_apart a x p q u f = elim (cases_Bool (o.rle x a)) [
    | inl t ↦ inr ((u.0, t), k.touch_gap a x p q f (u.0, t))
    | inr n ↦ inl n
  ]

  -- b is apart from every line of a row that it is apart from the first of
  apart_on : (b a : L) (xs : List L) → Ok o b → Row (a ∷ xs) → Apart o b a → All (Apart o b) (on a xs)
  apart_on b a xs p r h =
      all_map (λ y. Ok o y × Apart o b y) (Apart o b) (λ y m. m.1) (on a xs)
      (on_all (λ y. Ok o y × Apart o b y)
      (λ c x pc px u t m n.
      let s = k.touch_same c x pc px t in
      (k.join_ok c x pc px s, TwoLeaves.apart_join o k b c x p pc px s m.1 n.1))
      a xs r (r.0.0, h)
      (all_map2 (Ok o) (Up o a) (λ y. Ok o y × Apart o b y) (λ y py u. (py, TwoLeaves.apart_up o k b a y p r.0.0 py h u)) xs r.0.1 r.1.0))

  on_apart : (a : L) (xs : List L) → Row (a ∷ xs) → Pairs (Apart o) (on a xs)
  on_apart a [] r = (tt, tt)
  on_apart a (x ∷ xs) r =
      cond_both (o.touch a x) (on (o.join a x) xs) (a ∷ on x xs) (Pairs (Apart o))
      (λ t. on_apart (o.join a x) xs (joined_row a x xs r t))
      (λ f.
      let s = tail_row a (x ∷ xs) r in
      (apart_on a x xs r.0.0 s (next_apart a x r.0.0 r.0.1.0 r.1.0.0 f), on_apart x xs s))

  pub joined_apart : (l : List L) → Row l → Pairs (Apart o) (J l)
  joined_apart [] r = tt
  joined_apart (a ∷ xs) r = on_apart a xs r

  -- each leaf lies within a line
  on_holds_first : (y a : L) (xs : List L) → Ok o y → Row (a ∷ xs) → Within o y a → Any (Within o y) (on a xs)
  on_holds_first y a [] p r w = inl w
  on_holds_first y a (x ∷ xs) p r w =
      cond_both (o.touch a x) (on (o.join a x) xs) (a ∷ on x xs) (Any (Within o y))
      (λ t.
      let s = k.touch_same a x r.0.0 r.0.1.0 t in
      let rr = joined_row a x xs r t in
      on_holds_first y (o.join a x) xs p rr
      (TwoLeaves.within_trans o k y a (o.join a x) p r.0.0 rr.0.0 w (k.join_left a x r.0.0 r.0.1.0 s)))
      (λ _. inl w)

  on_holds : (a : L) (xs : List L) → Row (a ∷ xs) → (y : L) → In y xs → Any (Within o y) (on a xs)
  on_holds a [] r y i = absurd i
  on_holds a (x ∷ xs) r y i =
      cond_both (o.touch a x) (on (o.join a x) xs) (a ∷ on x xs) (Any (Within o y))
      (λ t. joins t i (on_holds (o.join a x) xs (joined_row a x xs r t) y))
      (λ _. inr (apart i (on_holds x xs (tail_row a (x ∷ xs) r) y)))
    where
      joins : o.touch a x ≡ true → In y (x ∷ xs) → (In y xs → Any (Within o y) (on (o.join a x) xs)) → Any (Within o y) (on (o.join a x) xs)
      joins t (inl e) f =
          let s = k.touch_same a x r.0.0 r.0.1.0 t in
          let rr = joined_row a x xs r t in
          on_holds_first y (o.join a x) xs (subst (Ok o) (sym e) r.0.1.0) rr
          (subst (λ (z : L). Within o z (o.join a x)) (sym e) (k.join_right a x r.0.0 r.0.1.0 s))
      joins t (inr j) f = f j

      apart : In y (x ∷ xs) → (In y xs → Any (Within o y) (on x xs)) → Any (Within o y) (on x xs)
      apart (inl e) f =
          on_holds_first y x xs (subst (Ok o) (sym e) r.0.1.0) (tail_row a (x ∷ xs) r)
          (subst (λ (z : L). Within o z x) (sym e) (TwoLeaves.within_refl o k x r.0.1.0))
      apart (inr j) f = f j

  pub joined_holds : (l : List L) → Row l → (y : L) → In y l → Any (Within o y) (J l)
  joined_holds [] r y i = absurd i
  joined_holds (a ∷ xs) r y (inl e) =
      on_holds_first y a xs (subst (Ok o) (sym e) r.0.0) r (subst (λ (z : L). Within o z a) (sym e) (TwoLeaves.within_refl o k a r.0.0))
  joined_holds (a ∷ xs) r y (inr i) = on_holds a xs r y i

  -- lines that are apart stay as they are
  on_still : (a : L) (xs : List L) → All (Ok o) (a ∷ xs) → Pairs (Apart o) (a ∷ xs) → on a xs ≡ a ∷ xs
  on_still a [] p h = refl
  on_still a (x ∷ xs) p h =
      cond-false (o.touch a x) (on (o.join a x) xs) (a ∷ on x xs) (TwoLeaves.apart_touch o k a x p.0 p.1.0 h.0.0) ∙ ap (λ (r : List L). a ∷ r) (on_still x xs p.1 h.1)

  pub joined_still : (l : List L) → All (Ok o) l → Pairs (Apart o) l → J l ≡ l
  joined_still [] p h = refl
  joined_still (a ∷ xs) p h = on_still a xs p h
