-- A reading of leaves in order.
use Rattle.std.proofs.Common.{◌≡◌, true, ◌&&◌, ◌⊎◌, List, [], ◌∷◌, ◌++◌, ap, ◌∙◌, inl, inr}
use Rattle.std.proofs.lemmas.Bool.{and_parts, and_from}
use Rattle.list.specs.Lists.{All, Any, In, Pairs, inserted, kept}
use Rattle.list.proofs.Core.{Ops, Laws, Ok, Within, Apart, Up, up, Inside, Made, Cov, cov}
use Rattle.list.proofs.Rows.{all_map2, all_in, all_from, any_out, any_in, all_inserted, pairs_inserted}
use Rattle.list.proofs.Order
use Rattle.list.proofs.TwoLeaves
use Rattle.list.proofs.Joined.{J, Row, joined_ok, joined_apart, joined_holds, joined_still}
use Rattle.list.proofs.Made.{made_own, made_trans, joined_made}
use Rattle.list.proofs.Kept.{Clear, Single, all_kept, pairs_kept, kept_clear, kept_still, kept_covers}

module _ {X : Type 0} where
  pub pairs_map : (P : X → Type 0) (R S : X → X → Type 0) → ((a b : X) → P a → P b → R a b → S a b) → (l : List X) → All P l → Pairs R l → Pairs S l
  pairs_map P R S f [] p h = tt
  pairs_map P R S f (x ∷ xs) p h = (all_map2 P (R x) (S x) (λ y py r. f x y p.0 py r) xs p.1 h.0, pairs_map P R S f xs p.1 h.1)

  pub any_append : (P : X → Type 0) (xs ys : List X) → Any P (xs ++ ys) → Any P xs ⊎ Any P ys
  any_append P [] ys h = inr h
  any_append P (x ∷ xs) ys (inl h) = inl (inl h)
  any_append P (x ∷ xs) ys (inr h) = elim (any_append P xs ys h) [ inl i ↦ inl (inr i) | inr j ↦ inr j ]

  pub append_any : (P : X → Type 0) (xs ys : List X) → Any P xs ⊎ Any P ys → Any P (xs ++ ys)
  append_any P [] ys (inl h) = absurd h
  append_any P [] ys (inr h) = h
  append_any P (x ∷ xs) ys (inl (inl h)) = inl h
  append_any P (x ∷ xs) ys (inl (inr h)) = inr (append_any P xs ys (inl h))
  append_any P (x ∷ xs) ys (inr h) = inr (append_any P xs ys (inr h))

  pub all_append_parts : (P : X → Type 0) (xs ys : List X) → All P (xs ++ ys) → All P xs × All P ys
  all_append_parts P [] ys h = (tt, h)
  all_append_parts P (x ∷ xs) ys h = let r = all_append_parts P xs ys h.1 in ((h.0, r.0), r.1)

  pub append_all : (P : X → Type 0) (xs ys : List X) → All P xs → All P ys → All P (xs ++ ys)
  append_all P [] ys h i = i
  append_all P (x ∷ xs) ys h i = (h.0, append_all P xs ys h.1 i)

module _ {E L : Type 0} (o : Ops E L) (k : Laws o) where
  pub cov_Cov : (a b : L) → cov o a b ≡ true → Cov o a b
  cov_Cov a b h =
      let p = and_parts (o.le (o.lo a) (o.lo b)) (o.le (o.hi b) (o.hi a) && o.rcov a b) h in
      let q = and_parts (o.le (o.hi b) (o.hi a)) (o.rcov a b) p.1 in
      (q.1, p.0, q.0)

  pub cov_inside : (a b : L) (e : E) → cov o a b ≡ true → Inside o b e → Inside o a e
  cov_inside a b e h i = let c = cov_Cov a b h in (k.le_trans _ _ _ c.1 i.0, k.le_trans _ _ _ i.1 c.2)

  Cov-cov : (a b : L) → Cov o a b → cov o a b ≡ true
  Cov-cov a b h =
      and_from (o.le (o.lo a) (o.lo b)) (o.le (o.hi b) (o.hi a) && o.rcov a b) h.1 (and_from (o.le (o.hi b) (o.hi a)) (o.rcov a b) h.2 h.0)

  cov_refl : (a : L) → Ok o a → cov o a a ≡ true
  cov_refl a p = Cov-cov a a (k.rcov_same a a p p (TwoLeaves.same_refl o k a p), Order.le_refl o k (o.lo a), Order.le_refl o k (o.hi a))

  cov_trans : (a b c : L) → Ok o a → Ok o b → Ok o c → cov o a b ≡ true → cov o b c ≡ true → cov o a c ≡ true
  cov_trans a b c p q r h i =
      let x = cov_Cov a b h in
      let y = cov_Cov b c i in
      Cov-cov a c (k.rcov_trans a b c p q r x.0 y.0, k.le_trans _ _ _ x.1 y.1, k.le_trans _ _ _ y.2 x.2)

  apart_single : (a b : L) → Ok o a → Ok o b → Apart o a b → Single (cov o) a b
  apart_single a b p q d h i =
      let x = cov_Cov a b h in
      let y = cov_Cov b a i in
      TwoLeaves.apart_within o k a b p q d (k.rcov_anti a b p q x.0 y.0, y.1, y.2)

  pub joined_single : (l : List L) → Row o k l → Pairs (Single (cov o)) (J o k l)
  joined_single l r = pairs_map (Ok o) (Apart o) (Single (cov o)) apart_single (J o k l) (joined_ok o k l r) (joined_apart o k l r)

  abbrev pub reading : List L → List L
  reading l = kept (cov o) (J o k l)

  pub reading_ok : (l : List L) → Row o k l → All (Ok o) (reading l)
  reading_ok l r = all_kept (cov o) (Ok o) (J o k l) (joined_ok o k l r)

  pub reading_apart : (l : List L) → Row o k l → Pairs (Apart o) (reading l)
  reading_apart l r = pairs_kept (cov o) (Apart o) (J o k l) (joined_apart o k l r)

  pub reading_clear : (l : List L) → Pairs (Clear (cov o)) (reading l)
  reading_clear l = kept_clear (cov o) (J o k l)

  pub reading_row : (l : List L) → Row o k l → Row o k (reading l)
  reading_row l r = (reading_ok l r, pairs_map (Ok o) (Apart o) (Up o) (TwoLeaves.apart_later o k) (reading l) (reading_ok l r) (reading_apart l r))

  pub reading_twice : (l : List L) → Row o k l → reading (reading l) ≡ reading l
  reading_twice l r = ap (kept (cov o)) (joined_still o k (reading l) (reading_ok l r) (reading_apart l r)) ∙ kept_still (cov o) (reading l) (reading_clear l)

  abbrev pub Covered : List L → L → Type 0
  Covered ys x = Any (λ y. cov o y x ≡ true) ys

  -- ys stand for the leaves xs: they are made of them, and one covers each
  abbrev pub Stands : List L → List L → Type 0
  Stands xs ys = All (Made o xs) ys × All (Covered ys) xs

  pub stands_trans : (xs ys zs : List L) → All (Ok o) xs → All (Ok o) ys → All (Ok o) zs → Stands xs ys → Stands ys zs → Stands xs zs
  stands_trans xs ys zs p q r s t = (all_map2 (Ok o) (Made o ys) (Made o xs) (made_trans o k xs ys p q s.0) zs r t.0, all_map2 (Ok o) (Covered ys) (Covered zs) over xs p s.1)
    where
      over : (x : L) → Ok o x → Covered ys x → Covered zs x
      over x px i =
          let y = any_out (λ y. cov o y x ≡ true) ys i in
          let z = any_out (λ z. cov o z y.0 ≡ true) zs (all_in (Covered zs) ys t.1 y.0 y.1) in
          any_in (λ z. cov o z x ≡ true) zs z.0 z.1 (cov_trans z.0 y.0 x (all_in (Ok o) zs r z.0 z.1) (all_in (Ok o) ys q y.0 y.1) px z.2 y.2)

  -- with the leaves ts more on either side
  pub stands_more : (xs ys ts zs : List L) → All (Ok o) xs → All (Ok o) ys → All (Ok o) ts → ((z : L) → In z zs → In z ys ⊎ In z ts) → ((z : L) → In z ys ⊎ In z ts → In z zs) → Stands xs ys → Stands (xs ++ ts) zs
  stands_more xs ys ts zs p q r f g s = (
    all_from (Made o (xs ++ ts)) zs (λ z i. elim (f z i) [ inl j ↦ made_trans o k (xs ++ ts) xs pr p (all_from (Made o (xs ++ ts)) xs (λ x n. own x (inl n))) z (all_in (Ok o) ys q z j) (all_in (Made o xs) ys s.0 z j) | inr j ↦ own z (inr j) ]),
    all_from (Covered zs) (xs ++ ts) (λ x i. elim (any_append (λ y. x ≡ y) xs ts i) [
      | inl j ↦ let y = any_out (λ y. cov o y x ≡ true) ys (all_in (Covered ys) xs s.1 x j) in any_in (λ y. cov o y x ≡ true) zs y.0 (g y.0 (inl y.1)) y.2
      | inr j ↦ any_in (λ y. cov o y x ≡ true) zs x (g x (inr j)) (cov_refl x (all_in (Ok o) ts r x j))
    ]),
  )
    where
      pr : All (Ok o) (xs ++ ts)
      pr = append_all (Ok o) xs ts p r

      own : (x : L) → In x xs ⊎ In x ts → Made o (xs ++ ts) x
      own x i = let j = append_any (λ y. x ≡ y) xs ts i in made_own o k (xs ++ ts) x (all_in (Ok o) (xs ++ ts) pr x j) j

  pub reading_stands : (l : List L) → Row o k l → Stands l (reading l)
  reading_stands l r = (all_kept (cov o) (Made o l) (J o k l) (joined_made o k l r), all_from (Covered (reading l)) l over)
    where
      p : All (Ok o) (J o k l)
      p = joined_ok o k l r

      over : (x : L) → In x l → Covered (reading l) x
      over x i =
          let px = all_in (Ok o) l r.0 x i in
          let a = any_out (Within o x) (J o k l) (joined_holds o k l r x i) in
          let pa = all_in (Ok o) (J o k l) p a.0 a.1 in
          let m = kept_covers (cov o) (Ok o) cov_refl cov_trans (J o k l) p (joined_single l r) a.0 a.1 in
          any_in (λ y. cov o y x ≡ true) (reading l) m.0 m.1
          (cov_trans m.0 a.0 x (all_in (Ok o) (reading l) (reading_ok l r) m.0 m.1) pa px m.2 (Cov-cov a.0 x (k.rcov_same a.0 x pa px (TwoLeaves.same_sym o k x a.0 a.2.0), a.2.1, a.2.2)))

  -- inserts
  abbrev pub put : L → List L → List L
  put x l = inserted (up o) x l

  pub put_row : (x : L) (l : List L) → Ok o x → Row o k l → Row o k (put x l)
  put_row x l p r = (
    all_inserted (up o) (Ok o) x l p r.0,
    pairs_inserted (up o) (Up o) (Ok o) (λ a b _ _ h. TwoLeaves.up_up o k a b h) (TwoLeaves.up_down o k) (TwoLeaves.up_trans o k) x l p r.0 r.1,
  )
