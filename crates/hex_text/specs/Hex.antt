-- Bytes as text: two hexadecimal digits each, spaces between bytes.
use Rattle.std.specs.Prelude.{ℕ, ◌+◌, ◌-◌, ◌*◌, cond, List, [], ◌∷◌, Some, None, Option, ◌==◌, nat_lt}
use Rattle.std.specs.Option.{option_map}

-- 0 to 9 are 48 to 57, A to F are 65 to 70, a to f are 97 to 102
abbrev pub digit_of : ℕ → Option ℕ
digit_of b =
    cond (nat_lt b 48) None (cond (nat_lt b 58) (Some (b - 48))
    (cond (nat_lt b 65) None (cond (nat_lt b 71) (Some (b - 55))
    (cond (nat_lt b 97) None (cond (nat_lt b 103) (Some (b - 87)) None)))))

-- the byte of two digits, if both are
abbrev pub byte_of : Option ℕ → Option ℕ → Option ℕ
byte_of (Some h) (Some l) = Some (16 * h + l)
byte_of (Some h) None = None
byte_of None l = None

-- the byte that a text begins with
abbrev pub byte_in : List ℕ → Option ℕ
byte_in [] = None
byte_in (b ∷ []) = None
byte_in (b ∷ c ∷ bs) = byte_of (digit_of b) (digit_of c)

-- a byte before the others, if all are there
abbrev pub before : Option ℕ → Option (List ℕ) → Option (List ℕ)
before None bs = None
before (Some n) bs = option_map (λ ms. n ∷ ms) bs

-- the bytes that a text writes, if it writes bytes and nothing else
unfoldable pub hex_of : List ℕ → Option (List ℕ)
hex_of [] = Some []
hex_of (b ∷ []) = cond (b == 32) (Some []) None
hex_of (b ∷ c ∷ bs) = cond (b == 32) (hex_of (c ∷ bs)) (before (byte_in (b ∷ c ∷ bs)) (hex_of bs))
