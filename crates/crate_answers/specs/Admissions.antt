-- Whether a sheet of amounts admits one.
use Rattle.std.specs.Prelude.{◌≡◌, ℕ, Bool, true, false, cond, ◌&&◌, List, [], ◌∷◌, codes, is_none, ℤ, Some, None, Option, option_and_then}
use Rattle.std.specs.Str.{bytes_eq}
use Rattle.std.proofs.Math.Bool.{beq}
use Rattle.hex_text.specs.Hex.{hex_of}
use Rattle.leaf.specs.Kind.{admits}
use Rattle.list.specs.Lists.{any}
use Rattle.list.specs.Runs.{lines, run}
use Rattle.list.specs.Runs.Call.{sheet}
use Rattle.list.specs.Sheets.{sheet_outcome}
use Rattle.amounts.specs.Amounts.{amounts}
use Rattle.amounts.specs.Values.{amount_of}
use Rattle.notation.specs.Text.{signed_of, split_at_first}
use Rattle.crate_answers.specs.declared.admitting.Asked.{Asked}
use Rattle.crate_answers.specs.Outcomes.{Outcome, or_malformed, same_if}

-- the amount that a text writes: an optional dash and digits, within 64 bits
abbrev pub amount_in : List ℕ → Option ℤ
amount_in text = option_and_then (λ n. amount_of n.negative n.magnitude) (signed_of text)

-- said or no
abbrev pub yes_in : List ℕ → Option Bool
yes_in text = cond (bytes_eq text (codes "yes")) (Some true) (cond (bytes_eq text (codes "no")) (Some false) None)

module _ (bytes : List ℕ) (v : ℤ) where
  -- nothing of the sheet is refused by a new list of 128 places
  abbrev pub is_whole : Bool
  is_whole = is_none (sheet_outcome amounts 128 bytes []).stop

  -- one of its leaves admits the amount, and one of its lines
  abbrev pub leaf_admits : Bool
  leaf_admits = any (λ x. admits amounts x v) (run amounts 128 (sheet bytes ∷ []))

  abbrev pub line_admits : Bool
  line_admits = any (λ x. admits amounts x v) (lines amounts 128 (sheet bytes ∷ []))

  pub record Tells (a : Asked) : Type 0 where
    pub whole : a.whole ≡ is_whole
    pub by_leaf : a.by_leaf ≡ leaf_admits
    pub by_line : a.by_line ≡ line_admits

  -- nothing is refused, and both answers are as is said
  abbrev pub admitted_as : Bool → Bool
  admitted_as said = is_whole && (beq leaf_admits said && beq line_admits said)

-- a sheet in hexadecimal and an amount, and yes or no
abbrev pub admission_outcome : List ℕ → List ℕ → Outcome
admission_outcome question answer =
    or_malformed (split_at_first 32 question) (λ p. or_malformed (hex_of p.0) (λ bytes. or_malformed (amount_in p.1) (λ v. or_malformed (yes_in answer) (λ said. same_if (admitted_as bytes v said)))))
