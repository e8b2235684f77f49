-- Sets of weekdays.
use Rattle.std.specs.Prelude.{◌≡◌, ℕ, zero, suc, ◌/◌, ◌%◌, ◌^◌, ◌<◌, min, true, Decides, bit_and, nat_eq, refl}
use Rattle.std.proofs.Common.{sym, ap, ◌∙◌, arith, eq-eqb, eqb-true}
use Rattle.std.proofs.Math.Arith.{bin_ind}
use Rattle.std.proofs.Math.Nat.{zero-min}
use Rattle.std.proofs.lemmas.Nat.{shr-shr, and_comm, and_shr, and_mod, and_mask}
use Rattle.std.specs.Int.Bits.{and_step, and_self}
use Rattle.leaf.specs.Numbers.{has_bit}
use Rattle.days.specs.Weekdays.{holds}

digit : (x y z : ℕ) → x < 2 → y < 2 → z < 2 → bit_and (bit_and x y) z ≡ bit_and x (bit_and y z)
digit zero y z hx hy hz = refl
digit (suc zero) zero z hx hy hz = refl
digit (suc zero) (suc zero) zero hx hy hz = refl
digit (suc zero) (suc zero) (suc zero) hx hy hz = refl
digit (suc zero) (suc zero) (suc (suc z)) hx hy hz = absurd (omega arith)
digit (suc zero) (suc (suc y)) z hx hy hz = absurd (omega arith)
digit (suc (suc x)) y z hx hy hz = absurd (omega arith)

by_digits : (a b : ℕ) → a / 2 ≡ b / 2 → a % 2 ≡ b % 2 → a ≡ b
by_digits a b h l = omega arith

pub and_assoc : (a b c : ℕ) → bit_and (bit_and a b) c ≡ bit_and a (bit_and b c)
and_assoc =
    bin_ind (λ (n : ℕ). (b c : ℕ) → bit_and (bit_and n b) c ≡ bit_and n (bit_and b c)) (λ b c. refl)
    (λ n ih b c. by_digits _ _
    (and_shr (bit_and n b) c 1 ∙ ap (λ (x : ℕ). bit_and x (c / 2)) (and_shr n b 1) ∙ ih (b / 2) (c / 2)
    ∙ sym (and_shr n (bit_and b c) 1 ∙ ap (bit_and (n / 2)) (and_shr b c 1)))
    (and_mod (bit_and n b) c 1 ∙ ap (λ (x : ℕ). bit_and x (c % 2)) (and_mod n b 1)
    ∙ digit (n % 2) (b % 2) (c % 2) (omega arith) (omega arith) (omega arith)
    ∙ sym (and_mod n (bit_and b c) 1 ∙ ap (bit_and (n % 2)) (and_mod b c 1))))

pub holds_self : (a : ℕ) → holds a a ≡ true
holds_self a = eq-eqb _ _ (and_self a)

pub holds_trans : (a b c : ℕ) → holds a b ≡ true → holds b c ≡ true → holds a c ≡ true
holds_trans a b c h i =
    let p : bit_and b a ≡ b = eqb-true _ _ h in
    let q : bit_and c b ≡ c = eqb-true _ _ i in
    eq-eqb _ _ (ap (λ x. bit_and x a) (sym q) ∙ and_assoc c b a ∙ ap (bit_and c) p ∙ q)

pub holds_anti : (a b : ℕ) → holds a b ≡ true → holds b a ≡ true → a ≡ b
holds_anti a b h i = sym (eqb-true (bit_and a b) a i) ∙ and_comm a b ∙ eqb-true (bit_and b a) b h

-- a weekday of b is one of a
one_and : (x y : ℕ) → x % 2 ≡ 1 → bit_and x y % 2 ≡ y % 2
one_and x y e =
    and_mod x y 1 ∙ (ap (λ z. bit_and z (y % 2)) e ∙ (and_comm 1 (y % 2) ∙ (and_mask (y % 2) 1 ∙ omega arith)))

pub holds_has : (a b k : ℕ) → holds a b ≡ true → has_bit b k ≡ true → has_bit a k ≡ true
holds_has a b k h i =
    let p : bit_and b a ≡ b = eqb-true _ _ h in
    let q : b / 2 ^ k % 2 ≡ 1 = eqb-true _ _ i in
    let s : b / 2 ^ k ≡ bit_and (b / 2 ^ k) (a / 2 ^ k) = ap (λ x. x / 2 ^ k) (sym p) ∙ and_shr b a k in
    eq-eqb _ _ (sym (one_and (b / 2 ^ k) (a / 2 ^ k) q) ∙ (ap (λ x. x % 2) (sym s) ∙ q))

-- and where each weekday of b is one of a, a holds b
low_bits : (x y : ℕ) → x < 2 → y < 2 → (x ≡ 1 → y ≡ 1) → min x y ≡ x
low_bits zero y hx hy f = zero-min y
low_bits (suc zero) y hx hy f = ap (min 1) (f refl)
low_bits (suc (suc x)) y hx hy f = absurd (omega arith)

has_half : (b k : ℕ) → has_bit (b / 2) k ≡ has_bit b (suc k)
has_half b k = let e : b / 2 / 2 ^ k ≡ b / 2 ^ suc k = shr-shr b 1 k ∙ ap (λ j. b / 2 ^ j) (omega arith) in ap (λ x. nat_eq (x % 2) 1) e

pub has_and : (b a : ℕ) → ((k : ℕ) → has_bit b k ≡ true → has_bit a k ≡ true) → bit_and b a ≡ b
has_and =
    bin_ind (λ (n : ℕ). (a : ℕ) → ((k : ℕ) → has_bit n k ≡ true → has_bit a k ≡ true) → bit_and n a ≡ n) (λ a f. refl)
    (λ n ih a f.
    let h = ih (a / 2) (λ k t. has_half a k ∙ f (suc k) (sym (has_half n k) ∙ t)) in
    let l = low_bits (n % 2) (a % 2) (omega arith) (omega arith) (λ e. bit_zero a (f 0 (eq-eqb _ _ (omega arith)))) in
    and_step n a ∙ omega (arith, h, l))
  where
    bit_zero : (a : ℕ) → has_bit a 0 ≡ true → a % 2 ≡ 1
    bit_zero a t = let q : a / 2 ^ 0 % 2 ≡ 1 = eqb-true _ _ t in omega arith

-- the cover of rules in the subject's words
pub holds_is : (a b : ℕ) → Decides (holds a b) ((k : ℕ) → has_bit b k ≡ true → has_bit a k ≡ true)
holds_is a b = (λ h k t. holds_has a b k h t, λ f. eq-eqb _ _ (has_and b a f))
