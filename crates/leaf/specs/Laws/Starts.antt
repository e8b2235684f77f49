-- A leaf that would start past a sheet's end is refused as one that starts at its end.
use Rattle.std.proofs.Common.{◌≡◌, ℕ, ◌<◌, ◌≤◌, ◌⊎◌, List, length, min, sym, ap, ◌∙◌, inl, inr, arith}
use Rattle.std.proofs.Math.Nat.{min-eq_left, min-eq_right}
use Rattle.std.proofs.lemmas.Bool.{cases_lt}
use Rattle.std.proofs.lemmas.List.{drop_all}
use Rattle.faults.specs.Faults.{refused, at_byte}
use Rattle.leaf.specs.Kind.{Kind, Laws, first_of, leaf_at}
use Rattle.leaf.specs.Reading.{byte_at, byte_in}

pub byte_past : (s : List ℕ) (at : ℕ) → length s ≤ at → byte_at s at ≡ refused (at_byte 2 (length s))
byte_past s at h = ap (λ d. byte_in (length s) at d) (drop_all at s h)

pub leaf_from_end : {V L : Type 0} (k : Kind V L) → Laws k → (s : List ℕ) (at : ℕ) → leaf_at k s (min at (length s)) ≡ leaf_at k s at
leaf_from_end k laws s at = go (cases_lt at (length s))
  where
    past : (at : ℕ) → length s ≤ at → leaf_at k s at ≡ refused (at_byte 2 (length s))
    past = (laws.layouts (first_of s)).past s

    go : (at < length s) ⊎ (length s ≤ at) → leaf_at k s (min at (length s)) ≡ leaf_at k s at
    go (inl l) = ap (leaf_at k s) (min-eq_left (omega (arith, l)))
    go (inr g) = ap (leaf_at k s) (min-eq_right g) ∙ (past (length s) (omega arith) ∙ sym (past at g))
