-- How long the text of a refusal is at most.
use Rattle.std.proofs.Common.{ℕ, ◌<◌, ◌≤◌, ◌^◌, [], ◌∷◌, ◌++◌, length, Some, None, Option, codes, decimal, arith}
use Rattle.std.proofs.lemmas.Fmt.{length-decimal-le}
use Rattle.std.proofs.lemmas.List.{length-append}
use Rattle.std.specs.Option.{unwrap_or}
use Rattle.faults.specs.declared.fault.Fault.{Fault}
use Rattle.faults.specs.declared.fault.Refusal.{Refusal}
use Rattle.faults.specs.declared.fault.Refusal.TheVariants.{TooLong, EndsEarly, BadNumber, UnknownByte, BadPart, ManyDivisors, OutOfRange, MinAboveMax, BadWeekdays, TableFull, ShortBuffer}
use Rattle.faults.specs.Faults.{number_of, shown}
use Rattle.texts.specs.Refusals.{place_text, refusal_text}

number_small : (r : Refusal) → number_of r < 100
number_small TooLong = omega arith
number_small EndsEarly = omega arith
number_small BadNumber = omega arith
number_small UnknownByte = omega arith
number_small BadPart = omega arith
number_small ManyDivisors = omega arith
number_small OutOfRange = omega arith
number_small MinAboveMax = omega arith
number_small BadWeekdays = omega arith
number_small TableFull = omega arith
number_small ShortBuffer = omega arith

place_short : (byte : Option ℕ) → unwrap_or byte 0 < 2 ^ 64 → length (place_text byte) ≤ 24
place_short None h = omega arith
place_short (Some b) h = omega (arith, length-append (codes " at ") (decimal b), length-decimal-le 20 b (omega arith) (omega arith) h)

-- a byte's number has 20 digits at most, a refusal's two
pub refusal_short : (f : Fault) → unwrap_or f.byte 0 < 2 ^ 64 → length (refusal_text (shown f)) ≤ 35
unfolding refusal_text
refusal_short f h =
    let n = number_of f.refusal in
    let small = number_small f.refusal in
    let place = place_text f.byte in
    omega (
      arith,
      length-append (codes "refused ") (decimal n ++ (place ++ 10 ∷ [])),
      length-append (decimal n) (place ++ 10 ∷ []),
      length-append place (10 ∷ []),
      length-decimal-le 2 n (omega arith) (omega arith) (omega arith),
      place_short f.byte h,
    )
