-- The rule of an amount leaf: a folded list of required divisors and a thinned list of barred ones.
use Rattle.std.specs.Prelude.{ℕ, ◌^◌, Bool, true, false, cond, not, ◌&&◌, List, Some, None, Option, ◌==◌, nat_lt}
use Rattle.divisors.specs.declared.fraction.Fraction.{Fraction}
use Rattle.divisors.specs.Fractions.{is_multiple}
use Rattle.divisors.specs.Lists.{at_most, every, sole_of, some}

-- whether a whole number is a multiple of each required divisor and of no barred one
abbrev pub admitted : List Fraction → List Fraction → ℕ → Bool
admitted xs ys n = every (is_multiple n) xs && not (some (is_multiple n) ys)

-- the step of a grid: the sole divisor where it is whole (and in range, as every kept one is), else 1
abbrev pub step_of : Option Fraction → ℕ
step_of None = 1
step_of (Some f) = cond (f.q == 1 && (nat_lt 0 f.p && nat_lt f.p (2 ^ 63))) f.p 1

abbrev pub step : List Fraction → ℕ
step xs = step_of (sole_of xs)

-- the order of rules: required lists first, then barred ones
abbrev pub both_at_most : List Fraction → List Fraction → List Fraction → List Fraction → Bool
both_at_most r s t u = cond (at_most r t) (cond (at_most t r) (at_most s u) true) false
