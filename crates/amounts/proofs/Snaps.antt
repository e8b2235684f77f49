-- The snap: a signed remainder is taken back, or the rest of a step is gone.
use Rattle.std.proofs.Common.{◌≡◌, ℕ, zero, suc, ◌*◌, ◌/◌, ◌%◌, ◌^◌, ◌<◌, false, cond, ℤ, pos, negsuc, ◌+ℤ◌, ◌-ℤ◌, neg_ℤ, nat_abs, ◌≤ℤ◌, ◌<ℤ◌, Some, None, Option, refl, ap, ◌∙◌, subst, suc-mul, zero-mul, arith, w64, SFits}
use native.Mathlib.Nat.{mul-mod_left}
use lib.Signed.{rem_z, mag}
use Rattle.std.specs.Option.{SomeIff}
use Rattle.std.proofs.lemmas.Int.{ints}
use Rattle.std.proofs.lemmas.Nat.{div-add-mod', mod_below}
use Rattle.std.proofs.lemmas.Bool.{ltb-true, lt-ltb, cond_both, both_ways}
use Rattle.amounts.specs.Values.{is_amount, next_of}
use Rattle.amounts.specs.Nexts.{Above, nat_abs_neg, above_one}

pub times : (s q : ℕ) (z : ℤ) → z ≡ pos (q * s) → nat_abs z % s ≡ 0
times s q z e = ap (λ (i : ℤ). nat_abs i % s) e ∙ mul-mod_left q s

pub times_neg : (s q : ℕ) (z : ℤ) → z ≡ neg_ℤ (pos (q * s)) → nat_abs z % s ≡ 0
times_neg s q z e = ap (λ (i : ℤ). nat_abs i % s) e ∙ (ap (λ (n : ℕ). n % s) (nat_abs_neg (q * s)) ∙ mul-mod_left q s)

-- a remainder below 0 is taken back
pub low : (s : ℕ) (v u : ℤ) → 0 < s → rem_z v (pos s) <ℤ pos 0 → u ≡ neg_ℤ (rem_z v (pos s)) → Above s v (v +ℤ u)
low s (pos a) u p h e = absurd (omega (arith, ints))
low s (negsuc a) u p h e =
    let d = div-add-mod' (suc a) s in
    let b = mod_below (suc a) s p in
    (omega (arith, ints), omega (arith, ints), times_neg s (suc a / s) (negsuc a +ℤ u) (omega (arith, ints)))

back : (s a q : ℕ) → suc a ≡ q * s → nat_abs (negsuc a +ℤ pos s) % s ≡ 0
back s a zero e = absurd (omega (arith, zero-mul s))
back s a (suc q) e = let w = suc-mul q s in times_neg s q (negsuc a +ℤ pos s) (omega (arith, ints))

-- any other leaves the rest of a step to go
pub high : (s : ℕ) (v u : ℤ) → 0 < s → pos 0 ≤ℤ rem_z v (pos s) → u ≡ pos s -ℤ rem_z v (pos s) → Above s v (v +ℤ u)
high s (pos a) u p h e =
    let d = div-add-mod' a s in
    let b = mod_below a s p in
    let w = suc-mul (a / s) s in
    (omega (arith, ints), omega (arith, ints), times s (suc (a / s)) (pos a +ℤ u) (omega (arith, ints)))
high s (negsuc a) u p h e =
    let d = div-add-mod' (suc a) s in
    let f : u ≡ pos s = omega (arith, ints) in
    (omega (arith, ints), omega (arith, ints), rw f (back s a (suc a / s) (omega (arith, ints))))

-- what is checked is the answer
pub nexts : (s : ℕ) (v z : ℤ) (r : Option ℤ) → 0 < s → Above s v z → SomeIff r (SFits w64 z) z → r ≡ next_of s v
unfolding next_of
nexts s v z r p a h =
    subst (λ (x : ℤ). r ≡ cond (is_amount x) (Some x) None) (above_one s v z p a)
    (cond_both (is_amount z) (Some z) None (λ o. r ≡ o) (λ t. there r h (ltb-true (mag z) (2 ^ 63) t)) (λ f. gone r h f))
  where
    there : (r : Option ℤ) → SomeIff r (SFits w64 z) z → mag z < 2 ^ 63 → r ≡ Some z
    there (Some m) h f = ap (λ (x : ℤ). Some x) h.1
    there None h f = absurd (h (record { sfits = f }))

    gone : (r : Option ℤ) → SomeIff r (SFits w64 z) z → is_amount z ≡ false → r ≡ None
    gone (Some m) h f = absurd (both_ways (is_amount z) f (lt-ltb (mag z) (2 ^ 63) h.0.sfits))
    gone None h f = refl

pub next_low : (d v z : ℤ) (r : Option ℤ) → pos 0 <ℤ d → rem_z v d <ℤ pos 0 → z ≡ v +ℤ neg_ℤ (rem_z v d) → SomeIff r (SFits w64 z) z → r ≡ next_of (nat_abs d) v
next_low (pos s) v z r p h e k = nexts s v z r (omega (arith, ints)) (rw e (low s v (neg_ℤ (rem_z v (pos s))) (omega (arith, ints)) h refl)) k
next_low (negsuc s) v z r p h e k = absurd (omega (arith, ints))

pub next_high : (d v z : ℤ) (r : Option ℤ) → pos 0 <ℤ d → pos 0 ≤ℤ rem_z v d → z ≡ v +ℤ (d -ℤ rem_z v d) → SomeIff r (SFits w64 z) z → r ≡ next_of (nat_abs d) v
next_high (pos s) v z r p h e k = nexts s v z r (omega (arith, ints)) (rw e (high s v (pos s -ℤ rem_z v (pos s)) (omega (arith, ints)) h refl)) k
next_high (negsuc s) v z r p h e k = absurd (omega (arith, ints))
