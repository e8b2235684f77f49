-- What a question about a leaf comes to.
use Rattle.std.specs.Prelude.{ℕ, ◌+◌, ◌-◌, ◌^◌, min, Bool, true, false, List, count_by, [], ◌∷◌, ◌==◌, Some, None, Ok, Err, Option, Result}
use Rattle.faults.specs.Faults.{number_of}
use Rattle.questions.specs.declared.answer.Objection.{Objection}
use Rattle.questions.specs.declared.answer.Objection.TheVariants.{Refused, Malformed, OutOfMemory}
use Rattle.questions.specs.declared.counts.Tally.{Tally}

-- a yes or no, a refusal by its number, or text of another form
pub data Outcome (M : Type 0) : Type 0 where
  answered : Bool → Outcome M
  refused : ℕ → Outcome M
  malformed : M → Outcome M

-- the outcome that an answer says, where memory did not run out
abbrev pub said : {M : Type 0} → Result Bool (Objection M) → Option (Outcome M)
said (Ok b) = Some (answered b)
said (Err (Refused f)) = Some (refused (number_of f.refusal))
said (Err (Malformed w)) = Some (malformed w)
said (Err (OutOfMemory e)) = None

-- a star alone, which stands for an absent bound
abbrev pub is_star : List ℕ → Bool
is_star [] = false
is_star (b ∷ []) = b == 42
is_star (b ∷ c ∷ bs) = false

abbrev pub and_then : {A B : Type 0} → Option A → (A → Option B) → Option B
and_then None f = None
and_then (Some x) f = f x

-- what is read goes on, and what is not read is what is wrong
abbrev pub or_else : {A M : Type 0} → M → Option A → (A → Outcome M) → Outcome M
or_else w None f = malformed w
or_else w (Some x) f = f x

-- how many answered, refused and malformed
pub record Counts : Type 0 where
  pub answers : ℕ
  pub refusals : ℕ
  pub others : ℕ

abbrev pub counts : Tally → Counts
counts t = record { answers = t.answered; refusals = t.refused; others = t.malformed }

abbrev pub is_answer : {M : Type 0} → Outcome M → Bool
is_answer (answered b) = true
is_answer (refused n) = false
is_answer (malformed w) = false

abbrev pub is_refusal : {M : Type 0} → Outcome M → Bool
is_refusal (answered b) = false
is_refusal (refused n) = true
is_refusal (malformed w) = false

abbrev pub is_other : {M : Type 0} → Outcome M → Bool
is_other (answered b) = false
is_other (refused n) = false
is_other (malformed w) = true

-- how many of the outcomes answer, refuse and name text of another form
abbrev pub tally : {M : Type 0} → List (Outcome M) → Counts
tally os = record { answers = count_by is_answer os; refusals = count_by is_refusal os; others = count_by is_other os }

-- one more, as far as 64 bits count
abbrev pub one_more : ℕ → ℕ
one_more n = min (n + 1) (2 ^ 64 - 1)

-- the counts with one outcome more
abbrev pub counted : {M : Type 0} → Outcome M → Counts → Counts
counted (answered b) c = record { answers = one_more c.answers; refusals = c.refusals; others = c.others }
counted (refused n) c = record { answers = c.answers; refusals = one_more c.refusals; others = c.others }
counted (malformed w) c = record { answers = c.answers; refusals = c.refusals; others = one_more c.others }
