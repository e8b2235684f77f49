-- Fractions p/q: size, lowest terms, multiples.
use Rattle.std.specs.Prelude.{◌≡◌, ℕ, ◌*◌, ◌/◌, ◌%◌, ◌^◌, ◌<◌, Bool, ◌&&◌, ◌↔◌, ℤ, pos, ◌*ℤ◌, ◌==◌, nat_lt}
use Rattle.std.specs.declared.cmp.Ordering.{Ordering}
use Rattle.std.specs.Int.{◌∣◌}
use Rattle.std.specs.Ordering.{MatchOrdering}
use Rattle.divisors.specs.declared.fraction.Fraction.{Fraction}
use Rattle.divisors.specs.Whole.{IsGcd, gcd_of}

-- no divisor: what stands in the free places of a row
abbrev pub none : Fraction
none = record { p = 0; q = 0 }

-- both parts are the same
abbrev pub same : Fraction → Fraction → Bool
same a b = a.p == b.p && a.q == b.q

-- both parts are from 1 to 2^63 - 1
pub record InRange (f : Fraction) : Type 0 where
  pub p_low : 0 < f.p
  pub p_high : f.p < 2 ^ 63
  pub q_low : 0 < f.q
  pub q_high : f.q < 2 ^ 63

-- the same, computed
abbrev pub in_range : Fraction → Bool
in_range f = nat_lt 0 f.p && (nat_lt f.p (2 ^ 63) && (nat_lt 0 f.q && nat_lt f.q (2 ^ 63)))

-- both parts are from 1 to 2^63 - 1 and have no common divisor
pub record Reduced (a : Fraction) : Type 0 where
  pub p_low : 0 < a.p
  pub p_high : a.p < 2 ^ 63
  pub q_low : 0 < a.q
  pub q_high : a.q < 2 ^ 63
  pub coprime : gcd_of a.p a.q ≡ 1

-- the same, computed
abbrev pub is_reduced : Fraction → Bool
is_reduced f = nat_lt 0 f.p && (nat_lt f.p (2 ^ 63) && (nat_lt 0 f.q && (nat_lt f.q (2 ^ 63) && gcd_of f.p f.q == 1)))

-- in lowest terms
abbrev pub reduce_of : Fraction → Fraction
reduce_of f = record { p = f.p / gcd_of f.p f.q; q = f.q / gcd_of f.p f.q }

-- the answer o is the order of p/q against r/s by size: p * s against r * q as whole numbers
abbrev pub BySize : Fraction → Fraction → Ordering → Type 0
BySize a b o = MatchOrdering o (a.p * b.q < b.p * a.q) (a.p * b.q ≡ b.p * a.q) (b.p * a.q < a.p * b.q)

-- whether a is lower than b by size
abbrev pub lower : Fraction → Fraction → Bool
lower a b = nat_lt (a.p * b.q) (b.p * a.q)

-- an integer v is a multiple of p/q when v * q is a multiple of p
abbrev pub MultipleOf : Fraction → ℤ → Type 0
MultipleOf f v = (k : ℤ) × (v *ℤ pos f.q ≡ k *ℤ pos f.p)

-- g is f in lowest terms: of the same size, with parts that only 1 divides both, and with the same multiples
pub record LowestTerms (f g : Fraction) : Type 0 where
  pub value : g ≡ reduce_of f
  pub size : g.p * f.q ≡ f.p * g.q
  pub reduced : Reduced g
  pub coprime : IsGcd g.p g.q 1
  pub multiples : (v : ℤ) → (MultipleOf g v) ↔ (MultipleOf f v)

-- a whole number is a multiple
abbrev pub Multiple : Fraction → ℕ → Type 0
Multiple f n = f.p ∣ n * f.q

-- the same, computed
abbrev pub is_multiple : ℕ → Fraction → Bool
is_multiple n f = n * f.q % f.p == 0
