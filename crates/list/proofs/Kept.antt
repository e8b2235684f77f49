-- What another covers is dropped.
use Rattle.std.proofs.Common.{◌≡◌, Bool, true, false, ◌||◌, ◌⊎◌, List, [], ◌∷◌, sym, refl, ap, ◌∙◌, subst, inl, inr}
use Rattle.std.proofs.lemmas.Bool.{cases_Bool, both_ways, cond_both, cond-false, or_parts, or_from}
use Rattle.list.specs.Lists.{All, In, Pairs, any, kept_on, kept}
use Rattle.list.proofs.Rows.{all_map, all_map2, all_in, all_from, any_false}

module _ {X : Type 0} where
  false_any : (p : X → Bool) (l : List X) → All (λ y. p y ≡ false) l → any p l ≡ false
  false_any p [] h = refl
  false_any p (x ∷ xs) h = or_from (p x) (any p xs) h.0 (false_any p xs h.1)

module _ {X : Type 0} (cov : X → X → Bool) where
  abbrev pub Clear : X → X → Type 0
  Clear x y = (cov x y ≡ false) × (cov y x ≡ false)

  -- of two at most one covers the other
  abbrev pub Single : X → X → Type 0
  Single x y = cov x y ≡ true → cov y x ≡ true → ⊥

  abbrev test : List X → X → List X → Bool
  test before x after = any (λ y. cov y x) before || any (λ y. cov y x) after

  on_all : (P : X → Type 0) (b l : List X) → All P l → All P (kept_on cov b l)
  on_all P b [] h = tt
  on_all P b (x ∷ xs) h =
      cond_both (test b x xs) (kept_on cov (x ∷ b) xs) (x ∷ kept_on cov (x ∷ b) xs) (All P)
      (λ _. on_all P (x ∷ b) xs h.1) (λ _. (h.0, on_all P (x ∷ b) xs h.1))

  on_pairs : (R : X → X → Type 0) (b l : List X) → Pairs R l → Pairs R (kept_on cov b l)
  on_pairs R b [] h = tt
  on_pairs R b (x ∷ xs) h =
      cond_both (test b x xs) (kept_on cov (x ∷ b) xs) (x ∷ kept_on cov (x ∷ b) xs) (Pairs R)
      (λ _. on_pairs R (x ∷ b) xs h.1) (λ _. (on_all (R x) (x ∷ b) xs h.0, on_pairs R (x ∷ b) xs h.1))

  on_clear_before : (b l : List X) → All (λ y. All (λ z. cov z y ≡ false) b) (kept_on cov b l)
  on_clear_before b [] = tt
  on_clear_before b (x ∷ xs) =
      let rest : All (λ y. All (λ z. cov z y ≡ false) b) (kept_on cov (x ∷ b) xs) =
      all_map (λ y. All (λ z. cov z y ≡ false) (x ∷ b)) (λ y. All (λ z. cov z y ≡ false) b) (λ y h. h.1) (kept_on cov (x ∷ b) xs) (on_clear_before (x ∷ b) xs) in
      cond_both (test b x xs) (kept_on cov (x ∷ b) xs) (x ∷ kept_on cov (x ∷ b) xs) (All (λ y. All (λ z. cov z y ≡ false) b))
      (λ _. rest) (λ f. (any_false (λ y. cov y x) b (or_parts (any (λ y. cov y x) b) (any (λ y. cov y x) xs) f).0, rest))

  on_clear : (b l : List X) → Pairs Clear (kept_on cov b l)
  on_clear b [] = tt
  on_clear b (x ∷ xs) =
      cond_both (test b x xs) (kept_on cov (x ∷ b) xs) (x ∷ kept_on cov (x ∷ b) xs) (Pairs Clear)
      (λ _. on_clear (x ∷ b) xs)
      (λ f. (
        all_map2 (λ y. cov y x ≡ false) (λ y. All (λ z. cov z y ≡ false) (x ∷ b)) (Clear x) (λ y h i. (i.0, h)) (kept_on cov (x ∷ b) xs)
            (on_all (λ y. cov y x ≡ false) (x ∷ b) xs (any_false (λ y. cov y x) xs (or_parts (any (λ y. cov y x) b) (any (λ y. cov y x) xs) f).1))
            (on_clear_before (x ∷ b) xs),
        on_clear (x ∷ b) xs,
      ))

  on_still : (b l : List X) → All (λ y. All (λ z. cov z y ≡ false) b) l → Pairs Clear l → kept_on cov b l ≡ l
  on_still b [] h p = refl
  on_still b (x ∷ xs) h p =
      cond-false (test b x xs) (kept_on cov (x ∷ b) xs) (x ∷ kept_on cov (x ∷ b) xs)
      (or_from (any (λ y. cov y x) b) (any (λ y. cov y x) xs) (false_any (λ y. cov y x) b h.0) (false_any (λ y. cov y x) xs (all_map (Clear x) (λ y. cov y x ≡ false) (λ y c. c.1) xs p.0)))
      ∙ ap (λ (r : List X). x ∷ r)
      (on_still (x ∷ b) xs (all_map2 (Clear x) (λ y. All (λ z. cov z y ≡ false) b) (λ y. All (λ z. cov z y ≡ false) (x ∷ b)) (λ y c i. (c.0, i)) xs p.0 h.1) p.1)

  abbrev pub Topmost : X → List X → Type 0
  Topmost m l = All (λ z. cov z m ≡ true → cov m z ≡ true) l

  -- what nothing strictly covers is kept
  on_in :
      (m : X) (b l : List X) → Topmost m b → Topmost m l → All (λ y. All (λ z. Single z y) b) l → Pairs Single l → In m l → In m (kept_on cov b l)
  on_in m b [] tb tl s p i = absurd i
  on_in m b (x ∷ xs) tb tl s p (inl e) =
      let clear : (l : List X) → Topmost m l → All (λ z. Single z x) l → All (λ z. cov z x ≡ false) l =
      λ l t u. all_map2 (λ z. cov z m ≡ true → cov m z ≡ true) (λ z. Single z x) (λ z. cov z x ≡ false)
      (λ z f g. here z f g (cases_Bool (cov z x))) l t u in
      subst (In m)
      (sym (cond-false (test b x xs) (kept_on cov (x ∷ b) xs) (x ∷ kept_on cov (x ∷ b) xs)
      (or_from (any (λ y. cov y x) b) (any (λ y. cov y x) xs) (false_any (λ y. cov y x) b (clear b tb s.0))
      (false_any (λ y. cov y x) xs (clear xs tl.1 (all_map (Single x) (λ z. Single z x) (λ z f g h. f h g) xs p.0))))))
      (inl e)
    where
      here : (z : X) → (cov z m ≡ true → cov m z ≡ true) → Single z x → (cov z x ≡ true) ⊎ (cov z x ≡ false) → cov z x ≡ false
      here z f g (inl t) = absurd (g t (subst (λ (w : X). cov w z ≡ true) e (f (subst (λ (w : X). cov z w ≡ true) (sym e) t))))
      here z f g (inr n) = n
  on_in m b (x ∷ xs) tb tl s p (inr i) =
      let rest : In m (kept_on cov (x ∷ b) xs) =
      on_in m (x ∷ b) xs (tl.0, tb) tl.1
      (all_map2 (Single x) (λ y. All (λ z. Single z y) b) (λ y. All (λ z. Single z y) (x ∷ b)) (λ y c j. (c, j)) xs p.0 s.1) p.1 i in
      cond_both (test b x xs) (kept_on cov (x ∷ b) xs) (x ∷ kept_on cov (x ∷ b) xs) (In m) (λ _. rest) (λ _. inr rest)

  -- what covers a kept one is that one
  on_own : (b l : List X) → All (λ x. (y : X) → In y b ⊎ In y l → cov y x ≡ true → y ≡ x) (kept_on cov b l)
  on_own b [] = tt
  on_own b (x ∷ xs) =
      let rest = all_map (λ z. (y : X) → In y (x ∷ b) ⊎ In y xs → cov y z ≡ true → y ≡ z) (λ z. (y : X) → In y b ⊎ In y (x ∷ xs) → cov y z ≡ true → y ≡ z) (λ z f y i. f y (move y i)) (kept_on cov (x ∷ b) xs) (on_own (x ∷ b) xs) in
      cond_both (test b x xs) (kept_on cov (x ∷ b) xs) (x ∷ kept_on cov (x ∷ b) xs) (All (λ z. (y : X) → In y b ⊎ In y (x ∷ xs) → cov y z ≡ true → y ≡ z))
      (λ _. rest)
      (λ f.
      let q = or_parts (any (λ y. cov y x) b) (any (λ y. cov y x) xs) f in
      (here (any_false (λ y. cov y x) b q.0) (any_false (λ y. cov y x) xs q.1), rest))
    where
      move : (y : X) → In y b ⊎ In y (x ∷ xs) → In y (x ∷ b) ⊎ In y xs
      move y (inl i) = inl (inr i)
      move y (inr (inl e)) = inl (inl e)
      move y (inr (inr i)) = inr i

      here : All (λ y. cov y x ≡ false) b → All (λ y. cov y x ≡ false) xs → (y : X) → In y b ⊎ In y (x ∷ xs) → cov y x ≡ true → y ≡ x
      here f g y (inl i) t = absurd (both_ways (cov y x) (all_in (λ z. cov z x ≡ false) b f y i) t)
      here f g y (inr (inl e)) t = e
      here f g y (inr (inr i)) t = absurd (both_ways (cov y x) (all_in (λ z. cov z x ≡ false) xs g y i) t)

  pub kept_own : (l : List X) → All (λ x. (y : X) → In y l → cov y x ≡ true → y ≡ x) (kept cov l)
  kept_own l = all_map (λ x. (y : X) → In y [] ⊎ In y l → cov y x ≡ true → y ≡ x) (λ x. (y : X) → In y l → cov y x ≡ true → y ≡ x) (λ x f y i. f y (inr i)) (kept cov l) (on_own [] l)

  pub own_kept : (l : List X) → Pairs Single l → (x : X) → In x l → ((y : X) → In y l → cov y x ≡ true → y ≡ x) → In x (kept cov l)
  own_kept l s x i f =
      on_in x [] l tt (all_from (λ z. cov z x ≡ true → cov x z ≡ true) l (λ z j t. turn z (f z j t) t)) (all_from (λ y. Unit {0}) l (λ x i. tt)) s i
    where
      turn : (z : X) → z ≡ x → cov z x ≡ true → cov x z ≡ true
      turn z e t = ap (λ (w : X). cov x w) e ∙ (sym (ap (λ (w : X). cov w x) e) ∙ t)

  pub all_kept : (P : X → Type 0) (l : List X) → All P l → All P (kept cov l)
  all_kept P l h = on_all P [] l h

  pub pairs_kept : (R : X → X → Type 0) (l : List X) → Pairs R l → Pairs R (kept cov l)
  pairs_kept R l h = on_pairs R [] l h

  -- no line kept is covered by another
  pub kept_clear : (l : List X) → Pairs Clear (kept cov l)
  kept_clear l = on_clear [] l

  pub kept_still : (l : List X) → Pairs Clear l → kept cov l ≡ l
  kept_still l p = on_still [] l (all_from (λ y. Unit {0}) l (λ x i. tt)) p

  -- something kept covers each
  module _ (P : X → Type 0) (rf : (a : X) → P a → cov a a ≡ true) (tr : (a b c : X) → P a → P b → P c → cov a b ≡ true → cov b c ≡ true → cov a c ≡ true) where
    top : (l : List X) → All P l → (x : X) → P x → (m : X) × ((m ≡ x) ⊎ In m l) × P m × (cov m x ≡ true) × Topmost m l
    top [] p x px = (x, inl refl, px, rf x px, tt)
    top (z ∷ l) p x px = pick (cases_Bool (cov z x)) (top l p.1 z p.0) (top l p.1 x px)
      where
        pick : (cov z x ≡ true) ⊎ (cov z x ≡ false) →
            ((m : X) × ((m ≡ z) ⊎ In m l) × P m × (cov m z ≡ true) × Topmost m l) →
            ((m : X) × ((m ≡ x) ⊎ In m l) × P m × (cov m x ≡ true) × Topmost m l) →
            (m : X) × ((m ≡ x) ⊎ In m (z ∷ l)) × P m × (cov m x ≡ true) × Topmost m (z ∷ l)
        pick (inl t) r s = (r.0, inr r.1, r.2, tr r.0 z x r.2 p.0 px r.3 t, (λ _. r.3, r.4))
        pick (inr f) r s = (
          s.0,
          elim s.1 [ inl e ↦ inl e | inr i ↦ inr (inr i) ],
          s.2,
          s.3,
          (λ h. absurd (both_ways (cov z x) f (tr z s.0 x p.0 s.2 px h s.3)), s.4),
        )

    pub kept_covers : (l : List X) → All P l → Pairs Single l → (x : X) → In x l → (m : X) × In m (kept cov l) × (cov m x ≡ true)
    kept_covers l p s x i =
        let r = top l p x (all_in P l p x i) in
        let j : In r.0 l = elim r.1 [ inl e ↦ subst (λ (w : X). In w l) (sym e) i | inr j ↦ j ] in
        (r.0, on_in r.0 [] l tt r.4 (all_from (λ y. Unit {0}) l (λ x i. tt)) s j, r.3)
