-- What the laws give of two and three leaves.
use Rattle.std.proofs.Common.{◌≡◌, true, false, not, ◌||◌, inl, inr}
use Rattle.std.proofs.lemmas.Bool.{cases_Bool, both_ways, and_parts, and_cases, or_cases, or_parts, not-true, not-false}
use Rattle.list.proofs.Core.{Ops, Laws, Ok, Same, Within, Apart, Up, up}
use Rattle.list.proofs.Order.{le_refl, lt_le, lt_le_lt, lt_not_le}

module _ {E L : Type 0} (o : Ops E L) (k : Laws o) where
  pub rle_refl : (a : L) → Ok o a → o.rle a a ≡ true
  rle_refl a p = elim (cases_Bool (o.rle a a)) [ inl t ↦ t | inr f ↦ k.rle_total a a p p f ]

  rlt_le : (a b c : L) → Ok o a → Ok o b → Ok o c → o.rle b a ≡ false → o.rle b c ≡ true → o.rle c a ≡ false
  rlt_le a b c p q r f t = elim (cases_Bool (o.rle c a)) [ inl u ↦ absurd (both_ways (o.rle b a) f (k.rle_trans b c a q r p t u)) | inr n ↦ n ]

  rle_lt : (a b c : L) → Ok o a → Ok o b → Ok o c → o.rle a b ≡ true → o.rle c b ≡ false → o.rle c a ≡ false
  rle_lt a b c p q r t f = elim (cases_Bool (o.rle c a)) [ inl u ↦ absurd (both_ways (o.rle c b) f (k.rle_trans c a b r p q u t)) | inr n ↦ n ]

  pub same_refl : (a : L) → Ok o a → Same o a a
  same_refl a p = (rle_refl a p, rle_refl a p)

  pub same_sym : (a b : L) → Same o a b → Same o b a
  same_sym a b s = (s.1, s.0)

  pub same_trans : (a b c : L) → Ok o a → Ok o b → Ok o c → Same o a b → Same o b c → Same o a c
  same_trans a b c p q r s t = (k.rle_trans a b c p q r s.0 t.0, k.rle_trans c b a r q p t.1 s.1)

  pub within_refl : (a : L) → Ok o a → Within o a a
  within_refl a p = (same_refl a p, le_refl o k (o.lo a), le_refl o k (o.hi a))

  pub within_trans : (a b c : L) → Ok o a → Ok o b → Ok o c → Within o a b → Within o b c → Within o a c
  within_trans a b c p q r s t =
      (same_trans a b c p q r s.0 t.0, k.le_trans _ _ _ t.1 s.1, k.le_trans _ _ _ s.2 t.2)

  -- the order by rule, then minimum
  pub up_up : (a b : L) → up o a b ≡ true → Up o a b
  up_up a b h =
      let q = and_parts (o.rle a b) (not (o.rle b a) || o.le (o.lo a) (o.lo b)) h in
      (q.0, λ t. elim (or_cases (not (o.rle b a)) (o.le (o.lo a) (o.lo b)) q.1) [ inl n ↦ absurd (both_ways (o.rle b a) (not-true (o.rle b a) n) t) | inr l ↦ l ])

  pub up_down : (a b : L) → Ok o a → Ok o b → up o a b ≡ false → Up o b a
  up_down a b p q h =
      elim (and_cases (o.rle a b) (not (o.rle b a) || o.le (o.lo a) (o.lo b)) h) [
        | inl f ↦ (k.rle_total a b p q f, λ t. absurd (both_ways (o.rle a b) f t))
        | inr n ↦ let s = or_parts (not (o.rle b a)) (o.le (o.lo a) (o.lo b)) n in (not-false (o.rle b a) s.0, λ _. k.le_total _ _ s.1)
      ]

  pub up_trans : (a b c : L) → Ok o a → Ok o b → Ok o c → Up o a b → Up o b c → Up o a c
  up_trans a b c p q r s t = (
    k.rle_trans a b c p q r s.0 t.0,
    λ ca. k.le_trans _ _ _ (s.1 (k.rle_trans b c a q r p t.0 ca)) (t.1 (k.rle_trans c a b r p q ca s.0)),
  )

  -- what has joined so far stands no later than its first
  pub up_join : (a x y : L) → Ok o a → Ok o x → Ok o y → Same o a x → Up o a y → Up o (o.join a x) y
  up_join a x y p q r s t =
      let j = k.join_ok a x p q s in
      let w = k.join_left a x p q s in
      (k.rle_trans _ a _ j p r w.0.1 t.0, λ h. k.le_trans _ _ _ w.1 (t.1 (k.rle_trans _ _ a r j p h w.0.1)))

  -- Apart
  pub apart_irrefl : (a : L) → Ok o a → Apart o a a → ⊥
  apart_irrefl a p (inl f) = both_ways (o.rle a a) f (rle_refl a p)
  apart_irrefl a p (inr s) =
      let g = s.1 in
      lt_not_le o k (o.hi a) (o.lo a) (lt_le_lt o k _ _ _ g.2 (lt_le o k _ _ g.3)) (k.window a p)

  pub apart_up : (b a x : L) → Ok o b → Ok o a → Ok o x → Apart o b a → Up o a x → Apart o b x
  apart_up b a x p q r (inl f) u = inl (rlt_le b a x p q r f u.0)
  apart_up b a x p q r (inr s) u =
      elim (cases_Bool (o.rle x a)) [
        | inl t ↦ inr (same_trans b a x p q r s.0 (u.0, t), (s.1.0, s.1.1, s.1.2, lt_le_lt o k _ _ _ s.1.3 (u.1 t)))
        | inr f ↦ inl (rle_lt b a x p q r s.0.0 f)
      ]

  -- the later of two apart stands later
  pub apart_later : (a b : L) → Ok o a → Ok o b → Apart o a b → Up o a b
  apart_later a b p q (inl f) = (k.rle_total b a q p f, λ t. absurd (both_ways (o.rle b a) f t))
  apart_later a b p q (inr s) =
      (s.0.0, λ _. k.le_trans _ _ _ (k.window a p) (k.le_trans _ _ _ (lt_le o k _ _ s.1.2) (lt_le o k _ _ s.1.3)))

  pub apart_asym : (a b : L) → Ok o a → Ok o b → Apart o a b → Apart o b a → ⊥
  apart_asym a b p q s t = apart_irrefl a p (apart_up a b a p q p s (apart_later b a q p t))

  pub apart_join : (b a x : L) → Ok o b → Ok o a → Ok o x → Same o a x → Apart o b a → Apart o b x → Apart o b (o.join a x)
  apart_join b a x p q r s (inl f) t =
      inl (rlt_le b a (o.join a x) p q (k.join_ok a x q r s) f (k.join_left a x q r s).0.0)
  apart_join b a x p q r s (inr h) (inl f) = absurd (both_ways (o.rle x b) f (k.rle_trans x a b r q p s.1 h.0.1))
  apart_join b a x p q r s (inr h) (inr i) =
      let j = k.join_ok a x q r s in
      inr (
        same_trans b a (o.join a x) p q j h.0 (k.join_left a x q r s).0,
        elim (k.join_lo a x q r s) [
          | inl e ↦ (h.1.0, h.1.1, h.1.2, rw e h.1.3)
          | inr e ↦ (i.1.0, i.1.1, i.1.2, rw e i.1.3)
        ],
      )

  -- neither of two apart lies within the other
  pub apart_within : (a b : L) → Ok o a → Ok o b → Apart o a b → Within o a b → ⊥
  apart_within a b p q (inl f) w = both_ways (o.rle b a) f w.0.1
  apart_within a b p q (inr s) w =
      lt_not_le o k (o.hi a) (o.lo b) (lt_le_lt o k _ _ _ s.1.2 (lt_le o k _ _ s.1.3)) (k.le_trans _ _ _ w.1 (k.window a p))

  pub apart_within_back : (a b : L) → Ok o a → Ok o b → Apart o a b → Within o b a → ⊥
  apart_within_back a b p q (inl f) w = both_ways (o.rle b a) f w.0.0
  apart_within_back a b p q (inr s) w =
      lt_not_le o k (o.hi a) (o.lo b) (lt_le_lt o k _ _ _ s.1.2 (lt_le o k _ _ s.1.3)) (k.le_trans _ _ _ (k.window b q) w.2)

  pub apart_touch : (a b : L) → Ok o a → Ok o b → Apart o a b → o.touch a b ≡ false
  apart_touch a b p q s = elim (cases_Bool (o.touch a b)) [ inl t ↦ absurd (no_touch s t) | inr f ↦ f ]
    where
      no_touch : Apart o a b → o.touch a b ≡ true → ⊥
      no_touch (inl f) t = both_ways (o.rle b a) f (k.touch_same a b p q t).1
      no_touch (inr g) t = k.touch_none a b p q t g.1
