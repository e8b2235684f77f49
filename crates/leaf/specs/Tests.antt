-- What a maker refuses: tests in their order, each with a number, which comes where the test is the first to fail.
use Rattle.std.specs.Prelude.{◌≡◌, ℕ, Bool, true, false, cond, ◌↔◌, ◌⊎◌, List, [], ◌∷◌, Some, None, Ok, Err, Option, Result, is_some}
use Rattle.faults.specs.Faults.{Refused, unplaced}
use Rattle.leaf.specs.Kind.{is_window_of}
use Rattle.leaf.specs.Windows.{window_of, written}

pub record Test : Type 0 where
  pub holds : Bool
  pub number : ℕ

-- all of them hold
abbrev pub AllHold : List Test → Type 0
AllHold [] = Unit {0}
AllHold (t ∷ ts) = (t.holds ≡ true) × AllHold ts

-- the first that fails has that number
abbrev pub FirstFails : ℕ → List Test → Type 0
FirstFails n [] = ⊥
FirstFails n (t ∷ ts) = ((t.holds ≡ false) × (n ≡ t.number)) ⊎ ((t.holds ≡ true) × FirstFails n ts)

module _ {A : Type 0} where
  -- what is made where all tests hold, else the number of the first that fails, which names no byte
  abbrev pub decided : List Test → A → Result A Refused
  decided [] x = Ok x
  decided (t ∷ ts) x = cond t.holds (decided ts x) (Err (unplaced t.number))

  -- each answer comes on its condition and on no other
  pub record Decided (ts : List Test) (x : A) (r : Result A Refused) : Type 0 where
    pub one : (r ≡ Ok x) ⊎ ((n : ℕ) × (r ≡ Err (unplaced n)))
    pub made : (r ≡ Ok x) ↔ AllHold ts
    pub refused : (n : ℕ) → (r ≡ Err (unplaced n)) ↔ FirstFails n ts

-- whether a bound as written, if it is there, is a value
abbrev pub is_valued : {W V : Type 0} → (W → Option V) → Option W → Bool
is_valued value None = true
is_valued value (Some w) = is_some (value w)

-- a window as written: both bounds are values, the minimum at most the maximum
abbrev pub window_tests : {W V : Type 0} → (W → Option V) → (V → V → Bool) → Option W → Option W → List Test
window_tests value le low high =
    record { holds = is_valued value low; number = 7 } ∷ record { holds = is_valued value high; number = 7 } ∷
    record { holds = is_window_of le (written value low) (written value high); number = 8 } ∷ []

-- the answers about windows as written, each on its condition: 7 where a bound is no value, then 8 where the minimum is above the maximum
unfoldable pub WindowsJudged : {W V : Type 0} → (W → Option V) → (V → V → Bool) → Type 0
WindowsJudged {W} value le = (low high : Option W) → Decided (window_tests value le low high) (record { minimum = written value low; maximum = written value high }) (window_of value le low high)
