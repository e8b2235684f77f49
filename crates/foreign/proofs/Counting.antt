-- A yes counts one, a no none.
use Rattle.std.proofs.Common.{◌≡◌, ◌≤◌, Bool, true, false, cond, refl, arith}
use mir.Val.{bool_byte}

pub one_or_none : (b : Bool) → (bool_byte b ≡ cond b 1 0) × (bool_byte b ≤ 1)
one_or_none true = (refl, omega arith)
one_or_none false = (refl, omega arith)
