-- The part that one whole number shares with another.
use Rattle.std.specs.Prelude.{◌≡◌, ℕ, zero, suc, ◌/◌, ◌%◌, ◌<◌, ◌≤◌, true, false, cond, not, ◌||◌, ◌⊎◌, Some, None, Option, ◌==◌}
use Rattle.std.specs.Int.{◌∣◌}
use Rattle.divisors.specs.Whole.{gcd_of}

pub record Prime (p : ℕ) : Type 0 where
  pub more : 1 < p
  pub only : (d : ℕ) → d ∣ p → (d ≡ 1) ⊎ (d ≡ p)

-- s is built only from primes of b
abbrev pub BuiltFrom : ℕ → ℕ → Type 0
BuiltFrom b s = (p : ℕ) → Prime p → p ∣ s → p ∣ b

-- the shared part of a: its largest divisor built only from primes of b
pub record IsShared (a b s : ℕ) : Type 0 where
  pub divides : s ∣ a
  pub built : BuiltFrom b s
  pub largest : (d : ℕ) → d ∣ a → BuiltFrom b d → d ≤ s

-- a with all that it shares with b divided out, in at most so many steps
unfoldable pub rest_in : ℕ → ℕ → ℕ → ℕ
rest_in zero a b = a
rest_in (suc k) a b = elim (gcd_of a b == 1) [ true ↦ a | false ↦ rest_in k (a / gcd_of a b) b ]

unfoldable pub rest_of : ℕ → ℕ → ℕ
rest_of a b = rest_in a a b

-- the shared part, computed
unfoldable pub shared_of : ℕ → ℕ → ℕ
shared_of a b = a / rest_of a b

-- the shared part divided out; nothing where it is 1 or does not divide b
abbrev pub strip_of : ℕ → ℕ → Option ℕ
strip_of a b = cond (shared_of a b == 1 || not (b % shared_of a b == 0)) None (Some (a / shared_of a b))
