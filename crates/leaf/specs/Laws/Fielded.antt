-- Fields and bounds that a plan makes, as they stand in a row of numbers.
use Rattle.std.specs.Prelude.{◌≡◌, ℕ, ◌+◌, Bool, true, false, ◌↔◌, List, [], ◌∷◌, drop, None, Option, refl}
use Rattle.std.proofs.Common.{sym, ap, subst, ◌∙◌, inl, inr, arith}
use Rattle.leaf.specs.declared.bounds.Bounds.{Bounds}
use Rattle.leaf.specs.Fields.{byte, number, Stands}
use Rattle.leaf.specs.Numbers.{has_bit}
use Rattle.leaf.specs.Plans.{Table, Plan, done, ask, either, then, field, head, bounds, Makes, Reached, Unfit, UnfitFlags, UnfitIn}
use Rattle.leaf.specs.Layouts.{StandInTurn}

module _ {Role : Type 0} (t : Table Role) (s : List ℕ) where
  pub number_made : (r : Role) (at n end : ℕ) → t.shape r ≡ number → Makes t s (field r) at n end → (t.fits r n ≡ true) × StandInTurn s at (n ∷ []) end
  number_made r at n end h (m, size, w, (e, f)) =
      (subst (λ z. t.fits r z ≡ true) e w.fits, (size, subst (λ z. Stands number (drop at s) z size) e (subst (λ z. Stands z (drop at s) m size) h w.stands), f))

  pub number_makes : (r : Role) (at n end : ℕ) → t.shape r ≡ number → t.fits r n ≡ true → StandInTurn s at (n ∷ []) end → Makes t s (field r) at n end
  number_makes r at n end h f (size, w, e) = (n, size, record { stands = subst (λ z. Stands z (drop at s) n size) (sym h) w; fits = f }, (refl, e))

  pub byte_made : (r : Role) (at n end : ℕ) → t.shape r ≡ byte → Makes t s (field r) at n end → (t.fits r n ≡ true) × (drop at s ≡ n ∷ drop 1 (drop at s)) × (at + 1 ≡ end)
  byte_made r at n end h (m, size, w, (e, f)) =
      let v : Stands byte (drop at s) m size = subst (λ z. Stands z (drop at s) m size) h w.stands in
      (subst (λ z. t.fits r z ≡ true) e w.fits, subst (λ z. drop at s ≡ z ∷ drop 1 (drop at s)) e v.0, omega (arith, v.1, f))

  pub byte_makes : (r : Role) (at n end : ℕ) → t.shape r ≡ byte → t.fits r n ≡ true → drop at s ≡ n ∷ drop 1 (drop at s) → at + 1 ≡ end → Makes t s (field r) at n end
  byte_makes r at n end h f d e = (n, 1, record { stands = subst (λ z. Stands z (drop at s) n 1) (sym h) (d, refl); fits = f }, (refl, e))

  -- the minimum, then the maximum
  pub bounds_made : {V : Type 0} (bound : Bool → Plan Role (Option V)) (f at : ℕ) (b : Bounds V) (end : ℕ) → Makes t s (bounds bound f) at b end →
      (mid : ℕ) × Makes t s (either (has_bit f 0) (bound (has_bit f 2)) (done None)) at b.minimum mid × Makes t s (either (has_bit f 1) (bound (has_bit f 3)) (done None)) mid b.maximum end
  bounds_made bound f at b end (low, mid, l, (high, e, h, (r, q))) = (
    mid,
    subst (λ z. Makes t s (either (has_bit f 0) (bound (has_bit f 2)) (done None)) at z mid) (ap (λ (b : Bounds _). b.minimum) r) l,
    subst (λ z. Makes t s (either (has_bit f 1) (bound (has_bit f 3)) (done None)) mid b.maximum z) q (subst (λ z. Makes t s (either (has_bit f 1) (bound (has_bit f 3)) (done None)) mid z e) (ap (λ (b : Bounds _). b.maximum) r) h),
  )

-- a plan of number fields
module _ {Role : Type 0} (t : Table Role) where
  abbrev pub Numbered : {A : Type 0} → Plan Role A → Type 0
  Numbered (done x) = Unit {0}
  Numbered (ask r k) = (t.shape r ≡ number) × ((at n : ℕ) → Numbered (k at n))
  Numbered (either b p q) = Numbered p × Numbered q
  Numbered (then {A = A} p k) = Numbered p × ((x : A) → Numbered (k x))

  pub numbered_bounds : {V : Type 0} (bound : Bool → Plan Role (Option V)) (f : ℕ) → ((n : Bool) → Numbered (bound n)) → Numbered (bounds bound f)
  numbered_bounds bound f h = ((h (has_bit f 2), tt), (λ _. ((h (has_bit f 3), tt), λ _. tt)))

  module _ (s : List ℕ) where
    numbered_reached : {A : Type 0} (plan : Plan Role A) (at : ℕ) (q : Role) (p : ℕ) → Numbered plan → Reached t s plan at q p → t.shape q ≡ number
    numbered_reached (done x) at q p h r = absurd r
    numbered_reached (ask r k) at q p h (inl (e, d)) = ap t.shape (sym e) ∙ h.0
    numbered_reached (ask r k) at q p h (inr (n, size, w, m)) = numbered_reached (k at n) (at + size) q p (h.1 at n) m
    numbered_reached (either b u v) at q p h (inl (e, m)) = numbered_reached u at q p h.0 m
    numbered_reached (either b u v) at q p h (inr (e, m)) = numbered_reached v at q p h.1 m
    numbered_reached (then u k) at q p h (inl m) = numbered_reached u at q p h.0 m
    numbered_reached (then u k) at q p h (inr (x, mid, l, m)) = numbered_reached (k x) mid q p (h.1 x) m

    byte_number : byte ≡ number → ⊥
    byte_number e = let q : ◌≡◌ {A = ℕ} 0 1 = cc in omega (arith, q)

    -- the flags are due at the leaf's first byte alone
    pub only_first : {A V : Type 0} (f : Role) (bound : Bool → Plan Role (Option V)) (k : Bounds V → Plan Role A) (at : ℕ) (q : Role) (p : ℕ) →
        ((n : Bool) → Numbered (bound n)) → ((b : Bounds V) → Numbered (k b)) → t.shape q ≡ byte → Reached t s (then (head f bound) k) at q p → p ≡ at
    only_first f bound k at q p h g e (inl (inl (inl (i, d)))) = sym d
    only_first f bound k at q p h g e (inl (inl (inr (n, size, w, m)))) = absurd m
    only_first f bound k at q p h g e (inl (inr (x, mid, l, m))) = absurd (byte_number (sym e ∙ numbered_reached (bounds bound x) mid q p (numbered_bounds bound x h) m))
    only_first f bound k at q p h g e (inr (x, mid, l, m)) = absurd (byte_number (sym e ∙ numbered_reached (k x) mid q p (g x) m))

-- which fields give a refusal
module _ {Role A : Type 0} (t : Table Role) (s : List ℕ) (plan : Plan Role A) (at : ℕ) where
  unfit_at : (q : Role) (p n size : ℕ) → Reached t s plan at q p → Stands (t.shape q) (drop p s) n size → t.fits q n ≡ false → Unfit t s plan at (t.refusal q) (t.named q p)
  unfit_at q p n size r w u = record { field = q; place = p; value = n; size = size; reached = r; stands = w; unfit = u; refusal_is = refl; named_is = refl }

  -- numbers that do not fit in the fields r, where no other field gives the refusal
  pub unfit_in : {I : Type 0} (r : I → Role) (test : I → ℕ → Bool) (m : ℕ) → ((i : I) (n : ℕ) → test i n ≡ t.fits (r i) n) → ((i : I) → m ≡ t.refusal (r i)) → ((i : I) → t.shape (r i) ≡ number) →
      ((q : Role) (n : ℕ) → m ≡ t.refusal q → t.fits q n ≡ false → (i : I) × (q ≡ r i)) → (p : ℕ) → Unfit t s plan at m p ↔ UnfitIn t s plan at r test p
  unfit_in r test m tests own numbers only p = (
    (λ u.
        let (i, e) = only u.field u.value u.refusal_is u.unfit in (
          i,
          u.place,
          u.value,
          u.named_is ∙ ap (λ q. t.named q u.place) e,
          record {
            reached = subst (λ q. Reached t s plan at q u.place) e u.reached;
            size = u.size;
            stands = subst (λ h. Stands h (drop u.place s) u.value u.size) (ap t.shape e ∙ numbers i) u.stands;
          },
          tests i u.value ∙ (sym (ap (λ q. t.fits q u.value) e) ∙ u.unfit),
        )),
    (λ (i, place, n, e, d, f).
        subst (λ z. Unfit t s plan at z p) (sym (own i))
        (subst (Unfit t s plan at (t.refusal (r i))) (sym e) (unfit_at (r i) place n d.size d.reached (subst (λ h. Stands h (drop place s) n d.size) (sym (numbers i)) d.stands) (sym (tests i n) ∙ f)))),
  )

-- the same of the flags, which are due at the leaf's first byte alone
module _ {Role A V : Type 0} (t : Table Role) (s : List ℕ) (flags : Role) (bound : Bool → Plan Role (Option V)) (k : Bounds V → Plan Role A) (at : ℕ) where
  pub unfit_flags : (test : ℕ → Bool) (m : ℕ) → ((f : ℕ) → test f ≡ t.fits flags f) → m ≡ t.refusal flags → t.shape flags ≡ byte → t.named flags at ≡ at → ((n : Bool) → Numbered t (bound n)) → ((b : Bounds V) → Numbered t (k b)) →
      ((q : Role) → m ≡ t.refusal q → q ≡ flags) → (p : ℕ) → Unfit t s (then (head flags bound) k) at m p ↔ UnfitFlags t s (then (head flags bound) k) at test p
  unfit_flags test m tests own shape named h g only p = (
    (λ u.
        let e = only u.field u.refusal_is in
        let d = only_first t s flags bound k at u.field u.place h g (ap t.shape e ∙ shape) u.reached in
        let w = subst (λ z. Stands z (drop u.place s) u.value u.size) (ap t.shape e ∙ shape) u.stands in (
          u.named_is ∙ ((λ i. t.named (e i) (d i)) ∙ named),
          (u.value, subst (λ z. drop z s ≡ u.value ∷ drop 1 (drop z s)) d w.0, tests u.value ∙ (sym (ap (λ q. t.fits q u.value) e) ∙ u.unfit)),
        )),
    (λ (e, (f, d, u)).
        subst (λ z. Unfit t s (then (head flags bound) k) at z p) (sym own)
        (subst (Unfit t s (then (head flags bound) k) at (t.refusal flags)) (named ∙ sym e)
        (unfit_at t s (then (head flags bound) k) at flags at f 1 (inl (inl (inl (refl, refl)))) (subst (λ z. Stands z (drop at s) f 1) (sym shape) (d, refl)) (sym (tests f) ∙ u)))),
  )
