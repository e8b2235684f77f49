-- Amounts: signed 64-bit numbers, and grids of multiples.
use Rattle.std.specs.Prelude.{ℕ, ◌+◌, ◌*◌, ◌/◌, ◌%◌, ◌^◌, Bool, true, false, cond, ◌&&◌, ℤ, pos, negsuc, ◌+ℤ◌, neg_ℤ, Some, None, Option, ◌==◌, nat_le, nat_lt, unsigned_abs}
use Rattle.std.specs.Int.Signed.{mag}

-- from -2^63 to 2^63 - 1
abbrev pub is_amount : ℤ → Bool
is_amount v = nat_lt (mag v) (2 ^ 63)

-- an amount as a magnitude and a sign: in range, and no minus zero
abbrev pub amount_of : Bool → ℕ → Option ℤ
amount_of false m = cond (nat_lt m (2 ^ 63)) (Some (pos m)) None
amount_of true m = cond (m == 0) None (cond (nat_le m (2 ^ 63)) (Some (neg_ℤ (pos m))) None)

-- the next amount
abbrev pub incremented : ℤ → Option ℤ
incremented v = cond (is_amount (v +ℤ pos 1)) (Some (v +ℤ pos 1)) None

-- on the grid of the multiples of s
abbrev pub is_on_grid : ℕ → ℤ → Bool
is_on_grid s v = is_amount v && unsigned_abs v % s == 0

-- the least multiple of s above v
unfoldable pub above : ℕ → ℤ → ℤ
above s (pos a) = pos ((a / s + 1) * s)
above s (negsuc a) = neg_ℤ (pos (a / s * s))

-- where it is an amount
unfoldable pub next_of : ℕ → ℤ → Option ℤ
next_of s v = cond (is_amount (above s v)) (Some (above s v)) None
