-- The order of machine numbers, as generic code asks it and as a kind has it.
use Rattle.std.proofs.Common.{◌≡◌, ℕ, Bool, ℤ, Some, Option, nat_le, ap, arith}
use Rattle.std.specs.Int.Signed.{le_z}
use Rattle.std.specs.Ordering.{int_cmp, nat_cmp, partial_le}
use Rattle.leaf.specs.declared.bounds.Bounds.{Bounds}
use Rattle.leaf.specs.Windows.{hull_of, window_of}

nat_le_is : (a b : ℕ) → partial_le (λ x y. Some (nat_cmp x y)) a b ≡ nat_le a b
nat_le_is a b = grind arith

int_le_is : (a b : ℤ) → partial_le (λ x y. Some (int_cmp x y)) a b ≡ le_z a b
int_le_is a b = grind arith

pub nat_order : ◌≡◌ {A = ℕ → ℕ → Bool} (partial_le (λ x y. Some (nat_cmp x y))) nat_le
nat_order i a b = nat_le_is a b i

pub int_order : ◌≡◌ {A = ℤ → ℤ → Bool} (partial_le (λ x y. Some (int_cmp x y))) le_z
int_order i a b = int_le_is a b i

pub int_hull : (a b : Bounds ℤ) → hull_of (partial_le (λ x y. Some (int_cmp x y))) a b ≡ hull_of le_z a b
int_hull a b = ap (λ (le : ℤ → ℤ → Bool). hull_of le a b) int_order

-- windows as written
module _ {W : Type 0} where
  pub nat_written : (value : W → Option ℕ) (x y : Option W) → window_of value (partial_le (λ a b. Some (nat_cmp a b))) x y ≡ window_of value nat_le x y
  nat_written value x y = ap (λ (le : ℕ → ℕ → Bool). window_of value le x y) nat_order

  pub int_written : (value : W → Option ℤ) (x y : Option W) → window_of value (partial_le (λ a b. Some (int_cmp a b))) x y ≡ window_of value le_z x y
  int_written value x y = ap (λ (le : ℤ → ℤ → Bool). window_of value le x y) int_order
