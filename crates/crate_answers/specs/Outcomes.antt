-- What a line of the input comes to.
use Rattle.std.specs.Prelude.{Bool, true, false, Some, None, Option}

-- its answer is the one that is found, or another; or the line is of another form
pub data Outcome : Type 0 where
  same : Outcome
  different : Outcome
  malformed : Outcome

abbrev pub same_if : Bool → Outcome
same_if true = same
same_if false = different

-- what is read goes on
abbrev pub or_malformed : {A : Type 0} → Option A → (A → Outcome) → Outcome
or_malformed None f = malformed
or_malformed (Some x) f = f x

abbrev pub is_same : Outcome → Bool
is_same same = true
is_same different = false
is_same malformed = false
