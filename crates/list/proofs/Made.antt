-- What a window is made of.
use Rattle.std.proofs.Common.{◌≡◌, true, false, ◌⊎◌, List, [], ◌∷◌, refl, ◌∙◌, subst, inl, inr}
use Rattle.std.proofs.lemmas.Bool.{cases_Bool}
use Rattle.list.specs.Lists.{All, Any, In}
use Rattle.list.proofs.Core.{Ops, Laws, Le, Lt, Ok, Same, Up, Inside, Made}
use Rattle.list.proofs.Rows.{all_in, all_from, any_map2, any_out, any_in}
use Rattle.list.proofs.Order.{lt_not_le}
use Rattle.list.proofs.TwoLeaves.{same_refl, same_sym, same_trans}
use Rattle.list.proofs.Joined.{J, Row, all_joined}

module _ {E L : Type 0} (o : Ops E L) (k : Laws o) where
  pub made_own : (xs : List L) (x : L) → Ok o x → In x xs → Made o xs x
  made_own xs x p i =
      let s = same_refl o k x p in
      (any_in (λ y. Same o x y × (o.lo x ≡ o.lo y)) xs x i (s, refl), any_in (λ y. Same o x y × (o.hi x ≡ o.hi y)) xs x i (s, refl), λ g _ m. any_in (λ y. Same o x y × Inside o y g) xs x i (s, m))

  -- what is made of windows is made of what these are made of
  pub made_trans : (xs ys : List L) → All (Ok o) xs → All (Ok o) ys → All (Made o xs) ys → (j : L) → Ok o j → Made o ys j → Made o xs j
  made_trans xs ys p q h j r m = (
    through (λ y. o.lo j ≡ o.lo y) (λ y x. o.lo y ≡ o.lo x) (λ x. o.lo j ≡ o.lo x) (λ y x d e. d ∙ e) (λ y py s d my. my.0) m.0,
    through (λ y. o.hi j ≡ o.hi y) (λ y x. o.hi y ≡ o.hi x) (λ x. o.hi j ≡ o.hi x) (λ y x d e. d ∙ e) (λ y py s d my. my.1) m.1,
    λ g d i. through (λ y. Inside o y g) (λ y x. Inside o x g) (λ x. Inside o x g) (λ y x _ e. e) (λ y py s e my. my.2 g (k.same_grid j y g r py s d) e) (m.2 g d i),
  )
    where
      through :
          (A : L → Type 0) (B : L → L → Type 0) (C : L → Type 0) → ((y x : L) → A y → B y x → C x) →
          ((y : L) → Ok o y → Same o j y → A y → Made o xs y → Any (λ x. Same o y x × B y x) xs) → Any (λ y. Same o j y × A y) ys → Any (λ x. Same o j x × C x) xs
      through A B C f g i =
          let y = any_out (λ y. Same o j y × A y) ys i in
          let py = all_in (Ok o) ys q y.0 y.1 in
          any_map2 (Ok o) (λ x. Same o y.0 x × B y.0 x) (λ x. Same o j x × C x)
          (λ x px s. (same_trans o k j y.0 x r py px y.2.0 s.0, f y.0 x y.2.1 s.1)) xs p
          (g y.0 py y.2.0 y.2.1 (all_in (Made o xs) ys h y.0 y.1))

  -- the join of two that touch is made of the two
  join_made : (a x : L) → Ok o a → Ok o x → Up o a x → o.touch a x ≡ true → Made o (a ∷ (x ∷ [])) (o.join a x)
  join_made a x p q u h = (
    elim (k.join_lo a x p q s) [ inl e ↦ inl (sa, e) | inr e ↦ inr (inl (sx, e)) ],
    elim (k.join_hi a x p q s) [ inl e ↦ inl (sa, e) | inr e ↦ inr (inl (sx, e)) ],
    λ g d m. place g (k.same_grid (o.join a x) a g (k.join_ok a x p q s) p sa d) m (cases_Bool (o.le g (o.hi a))) (cases_Bool (o.le (o.lo x) g)),
  )
    where
      s : Same o a x
      s = k.touch_same a x p q h

      sa : Same o (o.join a x) a
      sa = same_sym o k a (o.join a x) (k.join_left a x p q s).0

      sx : Same o (o.join a x) x
      sx = same_sym o k x (o.join a x) (k.join_right a x p q s).0

      low : (g : E) → Le o (o.lo (o.join a x)) g → Le o (o.lo a) g
      low g t = elim (k.join_lo a x p q s) [ inl e ↦ subst (λ (y : E). Le o y g) e t | inr e ↦ k.le_trans _ _ _ (u.1 s.1) (subst (λ (y : E). Le o y g) e t) ]

      high : (g : E) → Le o g (o.hi (o.join a x)) → Lt o (o.hi a) g → Le o g (o.hi x)
      high g t f = elim (k.join_hi a x p q s) [ inl e ↦ absurd (lt_not_le o k _ _ f (subst (Le o g) e t)) | inr e ↦ subst (Le o g) e t ]

      place :
          (g : E) → o.grid a g ≡ true → Inside o (o.join a x) g → (o.le g (o.hi a) ≡ true) ⊎ (o.le g (o.hi a) ≡ false) →
          (o.le (o.lo x) g ≡ true) ⊎ (o.le (o.lo x) g ≡ false) → Any (λ y. Same o (o.join a x) y × Inside o y g) (a ∷ (x ∷ []))
      place g d m (inl t) r = inl (sa, (low g m.0, t))
      place g d m (inr f) (inl t) = inr (inl (sx, (t, high g m.1 f)))
      place g d m (inr f) (inr t) = absurd (k.touch_none a x p q h (g, d, f, t))

  pub joined_made : (l : List L) → Row o k l → All (Made o l) (J o k l)
  joined_made l r =
      all_joined o k (Made o l)
      (λ a x p q u t ma mx. made_trans l (a ∷ (x ∷ [])) r.0 (p, (q, tt)) (ma, (mx, tt)) (o.join a x) (k.join_ok a x p q (k.touch_same a x p q t)) (join_made a x p q u t))
      l r (all_from (Made o l) l (λ x i. made_own l x (all_in (Ok o) l r.0 x i) i))
