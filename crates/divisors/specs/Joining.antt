-- The join of two fractions, and what one whole fraction leaves of another.
use Rattle.std.specs.Prelude.{◌≡◌, ◌≢◌, ℕ, ◌-◌, ◌*◌, ◌^◌, ◌<◌, ◌≤◌, cond, ◌&&◌, ◌↔◌, ℤ, Some, None, Option, IfSome, IsNone, IsSome, ◌==◌, nat_le, nat_lt}
use Rattle.std.specs.Int.{◌∣◌}
use Rattle.std.specs.Option.{option_map}
use Rattle.divisors.specs.declared.fraction.Fraction.{Fraction}
use Rattle.divisors.specs.Fractions.{MultipleOf, Reduced}
use Rattle.divisors.specs.Shared.{IsShared, strip_of}
use Rattle.divisors.specs.Whole.{IsGcd, IsLcm, gcd_of, lcm_of}

-- the join of p/q and r/s: the least common multiple of p and r over the greatest common divisor of q and s,
-- absent exactly where that multiple exceeds 2^63 - 1
pub record IsJoin (a b : Fraction) (join : Option Fraction) : Type 0 where
  pub multiple : ℕ
  pub least : IsLcm a.p b.p multiple
  pub absent : (IsNone join) ↔ (2 ^ 63 ≤ multiple)
  pub parts : IfSome join (λ j. (j.p ≡ multiple) × IsGcd a.q b.q j.q)
  -- of reduced fractions: an integer is a multiple of the join exactly if it is one of both
  pub multiples : Reduced a → Reduced b → IfSome join (λ j. (v : ℤ) → (MultipleOf j v) ↔ (MultipleOf a v × MultipleOf b v))

-- b strips a: both are whole, and the shared part is not 1 and divides b
pub record Strips (a b : Fraction) (shared : ℕ) : Type 0 where
  pub whole : a.q ≡ 1
  pub by_whole : b.q ≡ 1
  pub low : 0 < a.p
  pub more : shared ≢ 1
  pub divides : shared ∣ b.p

-- what is left of a without what it shares with b; nothing exactly where b does not strip it
pub record IsStrip (a b : Fraction) (left : Option Fraction) : Type 0 where
  pub shared : ℕ
  pub largest : 0 < a.p → IsShared a.p b.p shared
  pub strips : (IsSome left) ↔ Strips a b shared
  pub parts : IfSome left (λ f. (shared * f.p ≡ a.p) × (f.q ≡ 1))
  -- an integer that is a multiple of b is a multiple of what is left exactly if it is one of a
  pub multiples : IfSome left (λ f. (v : ℤ) → MultipleOf b v → (MultipleOf f v) ↔ (MultipleOf a v))

-- a number, or nothing where it exceeds 2^63 - 1
abbrev pub fitting : ℕ → Option ℕ
fitting n = cond (nat_le n (2 ^ 63 - 1)) (Some n) None

-- the join, computed
abbrev pub join_of : Fraction → Fraction → Option Fraction
join_of a b = cond (nat_le (lcm_of a.p b.p) (2 ^ 63 - 1)) (Some (record { p = lcm_of a.p b.p; q = gcd_of a.q b.q })) None

-- what a strip leaves, computed
abbrev pub strip_by : Fraction → Fraction → Option Fraction
strip_by a b = cond (a.q == 1 && (b.q == 1 && nat_lt 0 a.p)) (option_map (λ n. record { p = n; q = 1 }) (strip_of a.p b.p)) None
