-- What was written, piece by piece, is the output.
use Rattle.std.proofs.Common.{◌≡◌, ℕ, List, [], ◌∷◌, ◌++◌, Option, ap, ◌∙◌}
use Rattle.faults.specs.Faults.{Refused}
use Rattle.leaf.specs.Kind.{Kind}
use Rattle.texts.specs.Text.{together}
use Rattle.list.specs.Runs.{lines}
use Rattle.list.specs.Runs.Call.{sheet}
use Rattle.list.specs.Sheets.{sheet_outcome}
use Rattle.sheets.specs.Output.{output_of, stop_text}

pub printed : {V L : Type 0} (k : Kind V L) (text : L → List ℕ) (n : ℕ) (bytes : List ℕ) (shown : List L) (stop : Option Refused) (a b c : List ℕ)
    → a ≡ [] → b ≡ a ++ together text shown → c ≡ b ++ stop_text stop → shown ≡ lines k n (sheet bytes ∷ []) → stop ≡ (sheet_outcome k n bytes []).stop
    → c ≡ output_of k text n bytes
unfolding output_of
printed k text n bytes shown stop a b c none written ended given stopped =
    ended
    ∙ ap (λ (z : List ℕ). z ++ stop_text stop) (written ∙ ap (λ (z : List ℕ). z ++ together text shown) none ∙ ap (together text) given)
    ∙ ap (λ s. together text (lines k n (sheet bytes ∷ [])) ++ stop_text s) stopped
