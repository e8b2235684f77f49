-- Text cut at a byte and into lines; numbers and divisors as text.
use Rattle.std.specs.Prelude.{ℕ, ◌+◌, ◌-◌, ◌*◌, ◌^◌, min, Bool, true, false, cond, ◌&&◌, List, [], ◌∷◌, map, length, take, drop, Some, None, Option, ◌==◌, nat_le, nat_lt}
use Rattle.std.specs.List.{onto_first, position_or_len, slice_split}
use Rattle.std.specs.Option.{option_map}
use Rattle.divisors.specs.declared.fraction.Fraction.{Fraction}
use Rattle.notation.specs.declared.numbers.SignedNumber.{SignedNumber}

-- the place of the first byte c, or the length where there is none
abbrev pub index_of : ℕ → List ℕ → ℕ
index_of c bs = position_or_len (λ b. b == c) bs

-- what stands before the first byte c and what stands behind it, if there is one
abbrev pub split_at_first : ℕ → List ℕ → Option (List ℕ × List ℕ)
split_at_first c bs = cond (nat_lt (index_of c bs) (length bs)) (Some (take (index_of c bs) bs, drop (index_of c bs + 1) bs)) None

-- one decimal digit more; what passes 2^64 - 1 counts as that
abbrev pub with_digit : ℕ → ℕ → Option ℕ
with_digit n b = cond (nat_le 48 b && nat_le b 57) (Some (min (n * 10 + (b - 48)) (2 ^ 64 - 1))) None

-- bytes one after another, each of which takes a number a step on; nothing where one takes it nowhere
abbrev pub stepped : (ℕ → ℕ → Option ℕ) → ℕ → List ℕ → Option ℕ
stepped step n [] = Some n
stepped step n (b ∷ bs) = elim (step n b) [ Some m ↦ stepped step m bs | None ↦ None ]

-- the digits bs behind those that write n
abbrev pub digits_after : ℕ → List ℕ → Option ℕ
digits_after n bs = stepped with_digit n bs

-- the number that a row of digits writes
abbrev pub number_of : List ℕ → Option ℕ
number_of [] = None
number_of (b ∷ bs) = digits_after 0 (b ∷ bs)

abbrev pub fraction_of : Option ℕ → Option ℕ → Option Fraction
fraction_of (Some p) (Some q) = Some (record { p = p; q = q })
fraction_of (Some p) None = None
fraction_of None q = None

-- p/q, or p alone, which is p/1
abbrev pub divisor_of : List ℕ → Option Fraction
divisor_of bs = cond (nat_lt (index_of 47 bs) (length bs)) (fraction_of (number_of (take (index_of 47 bs) bs)) (number_of (drop (index_of 47 bs + 1) bs))) (fraction_of (number_of bs) (Some 1))

-- the parts of a text between bytes c
abbrev pub pieces : ℕ → List ℕ → List (List ℕ)
pieces c bs = slice_split (λ b. b == c) bs

-- the lines of a text: what stands between line feeds; one at the end begins no line
abbrev pub lines_of : List ℕ → List (List ℕ)
lines_of [] = []
lines_of (b ∷ bs) = cond (b == 10) ([] ∷ lines_of bs) (onto_first b (lines_of bs))

-- all of them, if each is there
abbrev pub listed : List (Option Fraction) → Option (List Fraction)
listed [] = Some []
listed (None ∷ os) = None
listed (Some f ∷ os) = option_map (λ fs. f ∷ fs) (listed os)

-- a dash alone
abbrev pub is_dash : List ℕ → Bool
is_dash [] = false
is_dash (b ∷ []) = b == 45
is_dash (b ∷ c ∷ bs) = false

-- divisors between commas; a dash alone is none
abbrev pub divisors_of : List ℕ → Option (List Fraction)
divisors_of bs = cond (is_dash bs) (Some []) (listed (map divisor_of (pieces 44 bs)))

-- a dash in front
abbrev pub dashed : List ℕ → Bool
dashed [] = false
dashed (b ∷ bs) = b == 45

-- a number with a sign: a dash and digits, or digits
abbrev pub signed_of : List ℕ → Option SignedNumber
signed_of bs = cond (dashed bs) (option_map (λ n. record { negative = true; magnitude = n }) (number_of (drop 1 bs))) (option_map (λ n. record { negative = false; magnitude = n }) (number_of bs))
