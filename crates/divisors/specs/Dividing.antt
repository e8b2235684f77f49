-- Divisors that divide one another: the cover relations of lists, and barred lists as they are kept.
use Rattle.std.specs.Prelude.{◌≡◌, ℕ, ◌*◌, ◌%◌, ◌<◌, Bool, true, not, ◌&&◌, ◌↔◌, Contains, List, filter, IsTrue, ◌==◌, nat_lt}
use Rattle.divisors.specs.declared.fraction.Fraction.{Fraction}
use Rattle.divisors.specs.Fractions.{same}
use Rattle.divisors.specs.Lists.{are_reduced, ascends, every, some}

-- p/q divides r/s: r/s is k times p/q for a whole number k. No p/q with p = 0 divides, and no r/s with s = 0 is divided
pub record Divides (a b : Fraction) : Type 0 where
  pub low : 0 < a.p
  pub other_low : 0 < b.q
  pub times : ℕ
  pub whole : b.p * a.q ≡ times * (a.p * b.q)

-- each of the first list divides one of the second
abbrev pub EachDivides : List Fraction → List Fraction → Type 0
EachDivides xs ys = (x : Fraction) → Contains xs x → (y : Fraction) × Contains ys y × Divides x y

-- each of the first list is divided by one of the second
abbrev pub EachDivided : List Fraction → List Fraction → Type 0
EachDivided xs ys = (x : Fraction) → Contains xs x → (y : Fraction) × Contains ys y × Divides y x

-- the answer for two reduced lists: whether each of the first divides one of the second
abbrev pub TellsDividing : List Fraction → List Fraction → Bool → Type 0
TellsDividing xs ys answer = are_reduced xs ≡ true → are_reduced ys ≡ true → (IsTrue answer) ↔ EachDivides xs ys

-- the answer for two reduced lists: whether each of the first is divided by one of the second
abbrev pub TellsDivided : List Fraction → List Fraction → Bool → Type 0
TellsDivided xs ys answer = are_reduced xs ≡ true → are_reduced ys ≡ true → (IsTrue answer) ↔ EachDivided xs ys

-- whether one reduced fraction divides another: whether p divides r, and s divides q
abbrev pub divides : Fraction → Fraction → Bool
divides a b = nat_lt 0 a.p && (nat_lt 0 b.q && (b.p % a.p == 0 && a.q % b.q == 0))

-- whether each of the first list divides one of the second
abbrev pub divide_all : List Fraction → List Fraction → Bool
divide_all xs ys = every (λ x. some (λ y. divides x y) ys) xs

-- whether each of the first list is divided by one of the second
abbrev pub bars_no_more : List Fraction → List Fraction → Bool
bars_no_more xs ys = every (λ x. some (λ y. divides y x) ys) xs

-- whether another of the list divides it
abbrev pub divided : List Fraction → Fraction → Bool
divided xs x = some (λ y. divides y x && not (same y x)) xs

-- the list without those that another divides
unfoldable pub thin_of : List Fraction → List Fraction
thin_of xs = filter (λ x. not (divided xs x)) xs

-- no one of the list divides another
abbrev pub thin : List Fraction → Bool
thin xs = every (λ x. not (divided xs x)) xs

-- reduced fractions, ascending, without repeats, and no one divides another
abbrev pub thinned : List Fraction → Bool
thinned xs = are_reduced xs && (ascends xs && thin xs)
