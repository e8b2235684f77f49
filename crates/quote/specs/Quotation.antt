-- What the program prints of a batch.
use Rattle.std.specs.Prelude.{ℕ, ◌+◌, List, [], ◌∷◌, ◌++◌, length, count_by, codes, decimal, Some, None, Option}
use Rattle.faults.specs.Faults.{Refused}
use Rattle.notation.specs.Numbered.{numbered}
use Rattle.texts.specs.Refusals.{refusal_text}
use Rattle.amounts.specs.Text.{line_text as amount_text}
use Rattle.days.specs.Text.{line_text as day_text}
use Rattle.quote.specs.Batch.{Line, malformed, blank, sheet, batch_lines, is_malformed, sheets_of}
use Rattle.quote.specs.Sheets.{amount_lines, day_lines, leaves_accepted, refusals_after, stop_after}

-- line k of a kind
abbrev pub numbered_line : {L : Type 0} → List ℕ → (L → List ℕ) → ℕ → L → List ℕ
numbered_line kind text k x = kind ++ (codes " " ++ (decimal k ++ (codes ": " ++ text x)))

-- the lines of a kind, numbered from 1
abbrev pub lines_text : {L : Type 0} → List ℕ → (L → List ℕ) → List L → List ℕ
lines_text kind text xs = numbered (numbered_line kind text) 1 xs

-- what refused sheet s, which stands on line k, if anything did
abbrev pub refusal_remark : ℕ → ℕ → Option Refused → List ℕ
refusal_remark s k None = []
refusal_remark s k (Some r) = codes "sheet " ++ (decimal s ++ (codes " on line " ++ (decimal k ++ (codes ": " ++ refusal_text r))))

abbrev pub malformed_remark : ℕ → List ℕ
malformed_remark k = codes "line " ++ (decimal k ++ codes ": not hexadecimal\n")

-- the remarks on lines from number k on, behind sheets taken before
abbrev pub remarks_after : List (List ℕ) → ℕ → List Line → List ℕ
remarks_after before k [] = []
remarks_after before k (malformed ∷ ls) = malformed_remark k ++ remarks_after before (k + 1) ls
remarks_after before k (blank ∷ ls) = remarks_after before (k + 1) ls
remarks_after before k (sheet bytes ∷ ls) = refusal_remark (length before + 1) k (stop_after before bytes) ++ remarks_after (before ++ bytes ∷ []) (k + 1) ls

-- how much the batch took
abbrev pub totals_text : ℕ → ℕ → ℕ → ℕ → ℕ → List ℕ
totals_text taken accepted billed refusals others =
    codes "sheets taken " ++ (decimal taken ++ (codes ", leaves accepted " ++ (decimal accepted ++ (codes ", lines billed " ++ (decimal billed ++
    (codes ", refusals " ++ (decimal refusals ++ (codes ", malformed lines " ++ (decimal others ++ codes "\n")))))))))

-- the quotation for the lines of a batch and the sheets among them
abbrev pub quotation_of : List Line → List (List ℕ) → List ℕ
quotation_of ls sheets =
    lines_text (codes "amounts") amount_text (amount_lines sheets) ++ (lines_text (codes "days") day_text (day_lines sheets) ++ (remarks_after [] 1 ls ++
    totals_text (length sheets) (leaves_accepted sheets) (length (amount_lines sheets) + length (day_lines sheets)) (refusals_after [] sheets) (count_by is_malformed ls)))

abbrev pub quotation : List ℕ → List ℕ
quotation batch = quotation_of (batch_lines batch) (sheets_of (batch_lines batch))
