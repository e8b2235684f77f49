-- Whole numbers: the greatest common divisor and the least common multiple.
use Rattle.std.specs.Prelude.{ℕ, zero, suc, ◌*◌, ◌/◌, ◌%◌}
use Rattle.std.specs.Int.{◌∣◌}

-- g divides a and b, and every common divisor divides it
pub record IsGcd (a b g : ℕ) : Type 0 where
  pub left : g ∣ a
  pub right : g ∣ b
  pub greatest : (d : ℕ) → d ∣ a → d ∣ b → d ∣ g

-- a and b divide l, and it divides every common multiple
pub record IsLcm (a b l : ℕ) : Type 0 where
  pub left : a ∣ l
  pub right : b ∣ l
  pub least : (m : ℕ) → a ∣ m → b ∣ m → l ∣ m

-- Euclid's rule, in at most so many steps
unfoldable pub gcd_in : ℕ → ℕ → ℕ → ℕ
gcd_in zero a b = a
gcd_in (suc k) a zero = a
gcd_in (suc k) a (suc b) = gcd_in k (suc b) (a % suc b)

-- the greatest common divisor, computed
unfoldable pub gcd_of : ℕ → ℕ → ℕ
gcd_of a b = gcd_in (suc b) a b

-- the least common multiple, computed
unfoldable pub lcm_of : ℕ → ℕ → ℕ
lcm_of a b = a / gcd_of a b * b
