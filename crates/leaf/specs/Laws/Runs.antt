-- What a plan makes of a sheet: each answer comes on its condition.
use Rattle.std.specs.Prelude.{◌≡◌, ℕ, ◌+◌, Bool, true, false, cond, ◌⊎◌, List, length, drop, refl}
use Rattle.std.proofs.Common.{sym, ap, ◌∙◌, subst, inl, inr, ⊎_elim}
use Rattle.std.proofs.lemmas.Bool.{cond-true, cond-false, cases_Bool}
use Rattle.faults.specs.Faults.{Answer, Refused, found, refused, next, at_byte}
use Rattle.leaf.specs.Fields.{Stands, Ends, Misspelt}
use Rattle.leaf.specs.Plans.{Table, Plan, done, ask, either, then, made_at, InOrder, Makes, Reached}
use Rattle.leaf.specs.Laws.Rows.{Judged, judge, shape_found, shape_ends, shape_bad}

module _ {Role : Type 0} (t : Table Role) (s : List ℕ) where
  -- what is wrong with a field that is not in order, and what that gives
  pub data Halts (q : Role) (p : ℕ) : Refused → Type 0 where
    early : Ends (t.shape q) (drop p s) → Halts q p (at_byte 2 (length s))
    bad : Misspelt (t.shape q) (drop p s) → Halts q p (at_byte 3 p)
    unfit : (n size : ℕ) → Stands (t.shape q) (drop p s) n size → t.fits q n ≡ false → Halts q p (at_byte (t.refusal q) (t.named q p))

  -- what an answer says of a plan
  abbrev pub Says : {A : Type 0} → Plan Role A → ℕ → Answer A → Type 0
  Says plan at (found x end) = Makes t s plan at x end
  Says plan at (refused f) = (q : Role) × (p : ℕ) × Reached t s plan at q p × Halts q p f

  module _ {A : Type 0} (r : Role) (k : ℕ → ℕ → Plan Role A) (at : ℕ) where
    abbrev on_field : Answer ℕ → Answer A
    on_field a = next a (λ n e. cond (t.fits r n) (made_at t (k at n) s e) (refused (at_byte (t.refusal r) (t.named r at))))

    ask_on : (n size : ℕ) → InOrder t s r at n size → made_at t (ask r k) s at ≡ made_at t (k at n) s (at + size)
    ask_on n size w = ap on_field (shape_found (t.shape r) s at n size w.stands) ∙ cond-true (t.fits r n) _ _ w.fits

    ask_halts : (f : Refused) → Halts r at f → made_at t (ask r k) s at ≡ refused f
    ask_halts f (early c) = ap on_field (shape_ends (t.shape r) s at c)
    ask_halts f (bad c) = ap on_field (shape_bad (t.shape r) s at c)
    ask_halts f (unfit n size w u) = ap on_field (shape_found (t.shape r) s at n size w) ∙ cond-false (t.fits r n) _ _ u

  -- what stands is read so
  pub makes_run : {A : Type 0} (plan : Plan Role A) (at : ℕ) (x : A) (end : ℕ) → Makes t s plan at x end → made_at t plan s at ≡ found x end
  makes_run (done y) at x end (e, h) = λ i. found (e i) (h i)
  makes_run (ask r k) at x end (n, size, w, m) = ask_on r k at n size w ∙ makes_run (k at n) (at + size) x end m
  makes_run (either b p q) at x end (inl (e, m)) = cond-true b _ _ e ∙ makes_run p at x end m
  makes_run (either b p q) at x end (inr (e, m)) = cond-false b _ _ e ∙ makes_run q at x end m
  makes_run (then p k) at x end (y, mid, m, l) = ap (λ a. next a (λ x e. made_at t (k x) s e)) (makes_run p at y mid m) ∙ makes_run (k y) mid x end l

  pub halts_run : {A : Type 0} (plan : Plan Role A) (at : ℕ) (q : Role) (p : ℕ) (f : Refused) → Reached t s plan at q p → Halts q p f → made_at t plan s at ≡ refused f
  halts_run (done y) at q p f r h = absurd r
  halts_run (ask r k) at q p f (inl (e, d)) h = ask_halts r k at f (subst (λ z. Halts r z f) (sym d) (subst (λ z. Halts z p f) (sym e) h))
  halts_run (ask r k) at q p f (inr (n, size, w, m)) h = ask_on r k at n size w ∙ halts_run (k at n) (at + size) q p f m h
  halts_run (either b u v) at q p f (inl (e, m)) h = cond-true b _ _ e ∙ halts_run u at q p f m h
  halts_run (either b u v) at q p f (inr (e, m)) h = cond-false b _ _ e ∙ halts_run v at q p f m h
  halts_run (then u k) at q p f (inl m) h = ap (λ a. next a (λ x e. made_at t (k x) s e)) (halts_run u at q p f m h)
  halts_run (then u k) at q p f (inr (y, mid, m, l)) h = ap (λ a. next a (λ x e. made_at t (k x) s e)) (makes_run u at y mid m) ∙ halts_run (k y) mid q p f l h

  pub answers : {A : Type 0} (plan : Plan Role A) (at : ℕ) (a : Answer A) → Says plan at a → made_at t plan s at ≡ a
  answers plan at (found x end) m = makes_run plan at x end m
  answers plan at (refused f) (q, p, r, h) = halts_run plan at q p f r h

  -- and every answer says so
  module _ {A : Type 0} (r : Role) (k : ℕ → ℕ → Plan Role A) (at : ℕ) where
    says_more : (n size : ℕ) (a : Answer A) → InOrder t s r at n size → Says (k at n) (at + size) a → Says (ask r k) at a
    says_more n size (found x e) w h = (n, size, w, h)
    says_more n size (refused f) w (q, p, c, h) = (q, p, inr (n, size, w, c), h)

    says_halt : (f : Refused) → Halts r at f → Says (ask r k) at (made_at t (ask r k) s at)
    says_halt f h = subst (Says (ask r k) at) (sym (ask_halts r k at f h)) (r, at, inl (refl, refl), h)

    says_fit : ((n size : ℕ) → Says (k at n) (at + size) (made_at t (k at n) s (at + size))) → (n size : ℕ) → Stands (t.shape r) (drop at s) n size → Says (ask r k) at (made_at t (ask r k) s at)
    says_fit g n size w =
        ⊎_elim
        (λ u. let o : InOrder t s r at n size = record { stands = w; fits = u } in subst (Says (ask r k) at) (sym (ask_on r k at n size o)) (says_more n size (made_at t (k at n) s (at + size)) o (g n size)))
        (λ u. says_halt (at_byte (t.refusal r) (t.named r at)) (unfit n size w u)) (cases_Bool (t.fits r n))

    says_by : Judged (t.shape r) (drop at s) → ((n size : ℕ) → Says (k at n) (at + size) (made_at t (k at n) s (at + size))) → Says (ask r k) at (made_at t (ask r k) s at)
    says_by (inl (n, size, w)) g = says_fit g n size w
    says_by (inr (inl c)) g = says_halt (at_byte 2 (length s)) (early c)
    says_by (inr (inr c)) g = says_halt (at_byte 3 at) (bad c)

  says_either : {A : Type 0} (b : Bool) (p q : Plan Role A) (at : ℕ) → Says p at (made_at t p s at) → Says q at (made_at t q s at) → Says (either b p q) at (made_at t (either b p q) s at)
  says_either b p q at h g = by (cases_Bool b)
    where
      one : (e : b ≡ true) (a : Answer _) → Says p at a → Says (either b p q) at a
      one e (found x end) m = inl (e, m)
      one e (refused f) (r, z, m, l) = (r, z, inl (e, m), l)

      two : (e : b ≡ false) (a : Answer _) → Says q at a → Says (either b p q) at a
      two e (found x end) m = inr (e, m)
      two e (refused f) (r, z, m, l) = (r, z, inr (e, m), l)

      by : (b ≡ true) ⊎ (b ≡ false) → Says (either b p q) at (made_at t (either b p q) s at)
      by (inl e) = subst (Says (either b p q) at) (sym (cond-true b _ _ e)) (one e (made_at t p s at) h)
      by (inr e) = subst (Says (either b p q) at) (sym (cond-false b _ _ e)) (two e (made_at t q s at) g)

  says_then : {A B : Type 0} (p : Plan Role A) (k : A → Plan Role B) (at : ℕ) (a : Answer A) → Says p at a → ((x : A) (e : ℕ) → Says (k x) e (made_at t (k x) s e)) → Says (then p k) at (next a (λ x e. made_at t (k x) s e))
  says_then p k at (refused f) (q, z, r, h) g = (q, z, inl r, h)
  says_then p k at (found y mid) m g = by (made_at t (k y) s mid) (g y mid)
    where
      by : (a : Answer _) → Says (k y) mid a → Says (then p k) at a
      by (found x end) l = (y, mid, m, l)
      by (refused f) (q, z, r, h) = (q, z, inr (y, mid, m, r), h)

  pub says : {A : Type 0} (plan : Plan Role A) (at : ℕ) → Says plan at (made_at t plan s at)
  says (done y) at = (refl, refl)
  says (ask r k) at = says_by r k at (judge (t.shape r) (drop at s)) (λ n size. says (k at n) (at + size))
  says (either b p q) at = says_either b p q at (says p at) (says q at)
  says (then p k) at = says_then p k at (made_at t p s at) (says p at) (λ x e. says (k x) e)
