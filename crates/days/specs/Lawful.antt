-- Lawful day leaves.
use Rattle.std.specs.Prelude.{◌≡◌, ℕ, true, ◌&&◌, Some, None, Option, refl}
use Rattle.std.proofs.Common.{◌∙◌}
use Rattle.std.proofs.lemmas.Bool.{and_from, and_parts}
use Rattle.leaf.specs.Kind.{Lawful, is_value_window}
use Rattle.days.specs.Days.{days}
use Rattle.days.specs.Leaves.{is_bound, is_window, leaf_of}
use Rattle.days.specs.Weekdays.{is_set}

pub same_window : (x y : Option ℕ) → (is_bound x && (is_bound y && is_window x y)) ≡ is_value_window days x y
same_window None None = refl
same_window None (Some y) = refl
same_window (Some x) None = refl
same_window (Some x) (Some y) = refl

pub leaf_lawful : (low high : Option ℕ) (set : ℕ) → is_bound low ≡ true → is_bound high ≡ true → is_window low high ≡ true → is_set set ≡ true → Lawful days (leaf_of low high set)
leaf_lawful low high set p q r s =
    and_from (is_bound low) (is_bound high && (is_window low high && is_set set)) p (and_from (is_bound high) (is_window low high && is_set set) q (and_from (is_window low high) (is_set set) r s))

-- the window and the weekdays of a lawful leaf
pub lawful_parts : (low high : Option ℕ) (set : ℕ) → Lawful days (leaf_of low high set) → ((is_bound low && (is_bound high && is_window low high)) ≡ true) × (is_set set ≡ true)
lawful_parts low high set h =
    let p = and_parts (is_bound low) (is_bound high && (is_window low high && is_set set)) h in
    let q = and_parts (is_bound high) (is_window low high && is_set set) p.1 in
    let r = and_parts (is_window low high) (is_set set) q.1 in
    (and_from (is_bound low) (is_bound high && is_window low high) p.0 (and_from (is_bound high) (is_window low high) q.0 r.0), r.1)

-- a leaf in a window of days
pub window_lawful : (low high : Option ℕ) (set : ℕ) → is_value_window days low high ≡ true → is_set set ≡ true → Lawful days (leaf_of low high set)
window_lawful low high set w s =
    let p = and_parts (is_bound low) (is_bound high && is_window low high) (same_window low high ∙ w) in
    let q = and_parts (is_bound high) (is_window low high) p.1 in
    leaf_lawful low high set p.0 q.0 q.1 s
