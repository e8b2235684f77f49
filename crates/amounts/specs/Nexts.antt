-- The least multiple above.
use Rattle.std.specs.Prelude.{◌≡◌, ℕ, zero, suc, ◌+◌, ◌*◌, ◌/◌, ◌%◌, ◌^◌, ◌<◌, ◌≤◌, true, false, ℤ, pos, negsuc, ◌+ℤ◌, neg_ℤ, ◌≤ℤ◌, ◌<ℤ◌, Some, None, ◌==◌, int_le, unsigned_abs, refl}
use Rattle.std.proofs.Common.{sym, ap, subst, ◌∙◌, ⊎_elim, arith, mul-le-mul_right, suc-mul}
use Rattle.std.proofs.Math.Nat.{mul-mod_left, zero-mod}
use Rattle.std.specs.Int.Signed.{mag}
use Rattle.std.proofs.lemmas.Bool.{cases_lt, and_parts, and_from, ltb-true, lt-ltb, eqb-true, eq-eqb, cond_both, both_ways, cases_Bool}
use Rattle.std.proofs.lemmas.Int.{ints}
use Rattle.std.proofs.lemmas.Nat.{div-add-mod', mod_below}
use Rattle.amounts.specs.Values.{is_amount, is_on_grid, above, next_of}

-- the order of amounts
pub le_of : (a b : ℤ) → int_le a b ≡ true → a ≤ℤ b
le_of a b h = grind (arith, ints)

pub of_le : (a b : ℤ) → a ≤ℤ b → int_le a b ≡ true
of_le a b h = grind (arith, ints)

pub lt_of : (a b : ℤ) → int_le b a ≡ false → a <ℤ b
lt_of a b h = grind (arith, ints)

pub of_lt : (a b : ℤ) → a <ℤ b → int_le b a ≡ false
of_lt a b h = grind (arith, ints)

-- two multiples of s less than s apart
near : (s x y : ℕ) → 0 < s → x % s ≡ 0 → y % s ≡ 0 → x < y + s → x ≤ y
near s x y p e f h =
    let dx = div-add-mod' x s in
    let dy = div-add-mod' y s in
    ⊎_elim (λ (l : y / s < x / s). let m = mul-le-mul_right s l in omega (arith, suc-mul (y / s) s)) (λ l. let m = mul-le-mul_right s l in omega arith) (cases_lt (y / s) (x / s))

-- z is the multiple just above v
abbrev pub Above : ℕ → ℤ → ℤ → Type 0
Above s v z = (v <ℤ z) × (z ≤ℤ (v +ℤ pos s)) × (unsigned_abs z % s ≡ 0)

pub least : (s : ℕ) (v z k : ℤ) → 0 < s → Above s v z → unsigned_abs k % s ≡ 0 → v <ℤ k → z ≤ℤ k
least s v (pos z) (pos k) p a e l = let n = near s z k p a.2 e (omega (arith, ints)) in omega (arith, ints)
least s v (pos z) (negsuc k) p a e l = let n = near s (suc k) 0 p e (zero-mod s) (omega (arith, ints)) in omega (arith, ints)
least s v (negsuc z) (pos k) p a e l = omega (arith, ints)
least s v (negsuc z) (negsuc k) p a e l = let n = near s (suc k) (suc z) p e a.2 (omega (arith, ints)) in omega (arith, ints)

pub nat_abs_neg : (n : ℕ) → unsigned_abs (neg_ℤ (pos n)) ≡ n
nat_abs_neg zero = refl
nat_abs_neg (suc n) = refl

pub above_is : (s : ℕ) (v : ℤ) → 0 < s → Above s v (above s v)
unfolding above
above_is s (pos a) p =
    let d = div-add-mod' a s in
    let b = mod_below a s p in
    let w = suc-mul (a / s) s in
    let e : (a / s + 1) * s ≡ a / s * s + s = omega arith in
    (omega (arith, ints), omega (arith, ints), mul-mod_left (a / s + 1) s)
above_is s (negsuc a) p =
    let d = div-add-mod' a s in
    let b = mod_below a s p in
    (omega (arith, ints), omega (arith, ints), ap (λ (n : ℕ). n % s) (nat_abs_neg (a / s * s)) ∙ mul-mod_left (a / s) s)

-- the multiple just above is one only
pub above_one : (s : ℕ) (v z : ℤ) → 0 < s → Above s v z → z ≡ above s v
above_one s v z p a =
    let b = above_is s v p in
    let x = least s v z (above s v) p a b.2 b.0 in
    let y = least s v (above s v) z p b a.2 a.0 in
    omega (arith, ints)

between : (v z k : ℤ) → is_amount v ≡ true → is_amount k ≡ true → v <ℤ z → z ≤ℤ k → is_amount z ≡ true
between v z k f g a b =
    let x = ltb-true (mag v) (2 ^ 63) f in
    let y = ltb-true (mag k) (2 ^ 63) g in
    lt-ltb (mag z) (2 ^ 63) (grind (arith, ints))

-- the answer is the multiple just above, or that is no amount
next_some : (s : ℕ) (v w : ℤ) → next_of s v ≡ Some w → (w ≡ above s v) × (is_amount (above s v) ≡ true)
unfolding next_of
next_some s v w =
    cond_both (is_amount (above s v)) (Some (above s v)) None (λ o. o ≡ Some w → (w ≡ above s v) × (is_amount (above s v) ≡ true))
    (λ t e. (cc, t)) (λ _ e. let z : ◌≡◌ {A = ℕ} 0 1 = cc in absurd (omega arith))

next_no : (s : ℕ) (v : ℤ) → next_of s v ≡ None → is_amount (above s v) ≡ false
unfolding next_of
next_no s v =
    cond_both (is_amount (above s v)) (Some (above s v)) None (λ o. o ≡ None → is_amount (above s v) ≡ false)
    (λ _ e. let z : ◌≡◌ {A = ℕ} 0 1 = cc in absurd (omega arith)) (λ n _. n)

grid_parts : (s : ℕ) (u : ℤ) → is_on_grid s u ≡ true → (is_amount u ≡ true) × (unsigned_abs u % s ≡ 0)
grid_parts s u g = let t = and_parts (is_amount u) (unsigned_abs u % s == 0) g in (t.0, eqb-true (unsigned_abs u % s) 0 t.1)

pub next_grid : (s : ℕ) (v w : ℤ) → 0 < s → is_amount v ≡ true → next_of s v ≡ Some w → (is_on_grid s w ≡ true) × (int_le w v ≡ false)
next_grid s v w p f e =
    let t = next_some s v w e in
    let b = above_is s v p in
    subst (λ (z : ℤ). (is_on_grid s z ≡ true) × (int_le z v ≡ false)) (sym t.0)
    (and_from (is_amount (above s v)) (unsigned_abs (above s v) % s == 0) t.1 (eq-eqb (unsigned_abs (above s v) % s) 0 b.2), of_lt v (above s v) b.0)

pub next_least : (s : ℕ) (v w u : ℤ) → 0 < s → is_amount v ≡ true → next_of s v ≡ Some w → is_on_grid s u ≡ true → int_le u v ≡ false → int_le w u ≡ true
next_least s v w u p f e g l =
    let t = next_some s v w e in
    subst (λ (z : ℤ). int_le z u ≡ true) (sym t.0) (of_le (above s v) u (least s v (above s v) u p (above_is s v p) (grid_parts s u g).1 (lt_of v u l)))

pub next_none : (s : ℕ) (v u : ℤ) → 0 < s → is_amount v ≡ true → next_of s v ≡ None → is_on_grid s u ≡ true → int_le u v ≡ true
next_none s v u p f e g =
    let b = above_is s v p in
    let t = grid_parts s u g in
    ⊎_elim (λ h. h)
    (λ h.
    let k = least s v (above s v) u p b t.1 (lt_of v u h) in
    absurd (both_ways (is_amount (above s v)) (next_no s v e) (between v (above s v) u f t.0 b.0 k)))
    (cases_Bool (int_le u v))
