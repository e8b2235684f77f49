-- What a line comes to: four fields with one space between are a question about days, more are one about amounts.
use Rattle.std.specs.Option.{is_some}
use Rattle.std.specs.Prelude.{ℕ, Bool, List, Some, None, Option}
use Rattle.notation.specs.Text.{split_at_first}
use Rattle.questions.specs.Outcomes.{Outcome, and_then, or_else}
use Rattle.ask.specs.declared.wrong.Wrong.{Wrong}
use Rattle.ask.specs.declared.wrong.Wrong.TheVariants.{Fields}
use Rattle.ask.specs.AmountQuestions.{amount_outcome}
use Rattle.ask.specs.DayQuestions.{day_outcome}

-- three fields and what is behind them: a date, or barred divisors and an amount with a space between
abbrev pub fields_outcome : List ℕ → List ℕ → List ℕ → List ℕ → Option (List ℕ × List ℕ) → Outcome Wrong
fields_outcome minimum maximum third rest None = day_outcome minimum maximum third rest
fields_outcome minimum maximum third rest (Some p) = amount_outcome minimum maximum third p.0 p.1

-- what a line comes to
abbrev pub line_outcome : List ℕ → Outcome Wrong
line_outcome s =
    or_else Fields (split_at_first 32 s) (λ a. or_else Fields (split_at_first 32 a.1) (λ b. or_else Fields (split_at_first 32 b.1) (λ c.
    fields_outcome a.0 b.0 c.0 c.1 (split_at_first 32 c.1))))

-- whether it asks about amounts: it has four spaces, and what stands between them is read with memory
abbrev pub asks_amounts : List ℕ → Bool
asks_amounts s = is_some (and_then (split_at_first 32 s) (λ a. and_then (split_at_first 32 a.1) (λ b. and_then (split_at_first 32 b.1) (λ c. split_at_first 32 c.1))))
