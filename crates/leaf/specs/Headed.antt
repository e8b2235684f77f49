-- Leaves that stand on a sheet as flags, the bounds that the flags name, and a rest.
use Rattle.std.specs.Prelude.{ℕ, Bool, false, ◌&&◌, List, ◌∷◌, ◌++◌, Some, None, Option, is_some}
use Rattle.leaf.specs.declared.bounds.Bounds.{Bounds}
use Rattle.leaf.specs.Layouts.{Layout}
use Rattle.leaf.specs.Numbers.{flags_made}
use Rattle.leaf.specs.Plans.{Table, Plan, done, then, head, fits_if, numbers_if}
use Rattle.leaf.specs.Windows.{written}

-- a leaf as written: bounds W and a rest R
pub record WrittenLeaf (W R : Type 0) : Type 0 where
  pub low : Option W
  pub high : Option W
  pub rest : R

-- what its fields make: bounds of values V, and what the rest makes, X
pub record MadeLeaf (V X : Type 0) : Type 0 where
  pub bounds : Bounds V
  pub rest : X

pub record Headed (Role V W X R : Type 0) : Type 1 where
  pub table : Table Role
  pub flags : Role
  -- a bound under its sign, and the rest
  pub bound : Bool → Plan Role (Option V)
  pub rest : Plan Role X
  -- a bound as written: its numbers, whether they may stand there, its value; and the flags of two
  pub bound_numbers : W → List ℕ
  pub is_bound : W → Bool
  pub value : W → Option V
  pub flags_of : Option W → Option W → ℕ
  -- the rest as written likewise
  pub rest_numbers : R → List ℕ
  pub is_rest : R → Bool
  pub rest_value : R → X

-- the sign of a bound, if there is one
abbrev pub has_sign : {W : Type 0} → (W → Bool) → Option W → Bool
has_sign sign None = false
has_sign sign (Some w) = sign w

-- the flags of bounds without a sign, and with one
abbrev pub unsigned_flags : {W : Type 0} → Option W → Option W → ℕ
unsigned_flags low high = flags_made (is_some low) (is_some high) false false

abbrev pub signed_flags : {W : Type 0} → (W → Bool) → Option W → Option W → ℕ
signed_flags sign low high = flags_made (is_some low) (is_some high) (has_sign sign low) (has_sign sign high)

module _ {Role V W X R : Type 0} (h : Headed Role V W X R) where
  abbrev pub headed_plan : Plan Role (MadeLeaf V X)
  headed_plan = then (head h.flags h.bound) (λ b. then h.rest (λ r. done (record { bounds = b; rest = r })))

  abbrev pub headed_numbers : WrittenLeaf W R → List ℕ
  headed_numbers w = h.flags_of w.low w.high ∷ ((numbers_if h.bound_numbers w.low ++ numbers_if h.bound_numbers w.high) ++ h.rest_numbers w.rest)

  abbrev pub headed_fits : WrittenLeaf W R → Bool
  headed_fits w = fits_if h.is_bound w.low && (fits_if h.is_bound w.high && h.is_rest w.rest)

  abbrev pub headed_made : WrittenLeaf W R → MadeLeaf V X
  headed_made w = record { bounds = record { minimum = written h.value w.low; maximum = written h.value w.high }; rest = h.rest_value w.rest }

  -- with the test of a window, and the leaf that a window and a rest make
  abbrev pub headed_layout : {L : Type 0} → (Option V → Option V → Bool) → (Bounds V → X → L) → Layout Role (WrittenLeaf W R) (MadeLeaf V X) L
  headed_layout is_window leaf = record {
    table = h.table;
    plan = headed_plan;
    is_window = λ m. is_window m.bounds.minimum m.bounds.maximum;
    leaf = λ m. leaf m.bounds m.rest;
    numbers = headed_numbers;
    fits = headed_fits;
    made = headed_made;
  }
