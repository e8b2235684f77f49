-- Windows of values as written, and as they stand on a sheet behind their flags.
use Rattle.std.specs.Prelude.{ℕ, Bool, cond, List, Some, None, Ok, Err, Option, Result}
use Rattle.leaf.specs.declared.bounds.Bounds.{Bounds}
use Rattle.faults.specs.Faults.{Answer, Refused, at_byte, found, next, refused, then, unplaced}
use Rattle.leaf.specs.Kind.{higher_of, is_window_of, lower_of}
use Rattle.leaf.specs.Numbers.{are_flags, has_bit}
use Rattle.leaf.specs.Reading.{byte_at}

-- the smallest window round two: the lower minimum and the higher maximum, an absent one being outermost
abbrev pub hull_of : {V : Type 0} → (V → V → Bool) → Bounds V → Bounds V → Bounds V
hull_of le a b = record { minimum = lower_of le a.minimum b.minimum; maximum = higher_of le a.maximum b.maximum }

module _ {V : Type 0} where
  -- what was written has to be a value: a maker's refusal names no byte
  abbrev pub valued : Option V → Result (Option V) Refused
  valued None = Err (unplaced 7)
  valued (Some v) = Ok (Some v)

module _ {W V : Type 0} (value : W → Option V) where
  -- what a bound as written stands for
  abbrev pub written : Option W → Option V
  written None = None
  written (Some w) = value w

  -- a bound as written
  abbrev pub bound : Option W → Result (Option V) Refused
  bound None = Ok None
  bound (Some w) = valued (value w)

  -- bounds that are values, minimum at most maximum
  abbrev pub window_of : (V → V → Bool) → Option W → Option W → Result (Bounds V) Refused
  window_of le low high = then (bound low) (λ l. then (bound high) (λ h. cond (is_window_of le l h) (Ok (record { minimum = l; maximum = h })) (Err (unplaced 8))))

-- the flags of a leaf, as they stand on a sheet
abbrev pub flags_at : Bool → List ℕ → ℕ → Answer ℕ
flags_at signed s at = next (byte_at s at) (λ f e. cond (are_flags signed f) (found f e) (refused (at_byte 4 at)))

-- bounds as they stand on a sheet, each as it is read under its sign; the minimum comes first
module _ {V : Type 0} (bound_at : Bool → List ℕ → ℕ → Answer (Option V)) where
  abbrev pub bound_if : Bool → Bool → List ℕ → ℕ → Answer (Option V)
  bound_if present negative s at = cond present (bound_at negative s at) (found None at)

  abbrev pub bounds_at : ℕ → List ℕ → ℕ → Answer (Bounds V)
  bounds_at f s at = next (bound_if (has_bit f 0) (has_bit f 2) s at) (λ low e. next (bound_if (has_bit f 1) (has_bit f 3) s e) (λ high g. found (record { minimum = low; maximum = high }) g))

  -- behind their flags
  abbrev pub head_at : Bool → List ℕ → ℕ → Answer (Bounds V)
  head_at signed s at = next (flags_at signed s at) (λ f e. bounds_at f s e)
