-- Of a sheet that is too long only the front matters.
use Rattle.std.proofs.Common.{◌≡◌, ℕ, suc, ◌<◌, ◌≤◌, Bool, true, false, List, [], ◌∷◌, ◌++◌, length, take, ltb, Some, sym, ap, refl, ◌∙◌, arith}
use Rattle.std.proofs.lemmas.Bool.{cond-true, lt-ltb, ltb-false, ltb-true}
use Rattle.std.proofs.lemmas.List.{length-take, take_all}
use Rattle.faults.specs.Faults.{at_byte}
use Rattle.leaf.specs.Kind.{Kind}
use Rattle.texts.specs.Text.{together}
use Rattle.list.specs.Runs.{reading}
use Rattle.list.specs.Sheets.{Outcome, ends, first_byte, sheet_outcome}
use Rattle.amounts.specs.Amounts.{amounts}
use Rattle.amounts.specs.Text.{line_text as amount_text}
use Rattle.days.specs.Days.{days}
use Rattle.days.specs.Text.{line_text as day_text}
use Rattle.sheets.specs.Output.{is_of_days, output_as, output_of, sheet_output, stop_text}

module _ {V L : Type 0} (k : Kind V L) (text : L → List ℕ) (n : ℕ) where
  long_outcome : (x : List ℕ) → 32768 < length x → sheet_outcome k n x [] ≡ ends 0 [] (Some (at_byte 1 0))
  long_outcome x h = cond-true (ltb 32768 (length x)) (ends 0 [] (Some (at_byte 1 0))) (first_byte k n x x []) (lt-ltb 32768 (length x) h)

  long_output : (x : List ℕ) → 32768 < length x → output_of k text n x ≡ together text (reading k []) ++ stop_text (Some (at_byte 1 0))
  unfolding output_of
  long_output x h = ap (λ (o : Outcome L). together text (reading k o.held) ++ stop_text o.stop) (long_outcome x h)

long_same : (b : Bool) (x y : List ℕ) → 32768 < length x → 32768 < length y → output_as b x ≡ output_as b y
long_same true x y h j = long_output days day_text 128 x h ∙ sym (long_output days day_text 128 y j)
long_same false x y h j = long_output amounts amount_text 128 x h ∙ sym (long_output amounts amount_text 128 y j)

kind_kept : (n : ℕ) (x : List ℕ) → is_of_days (take (suc n) x) ≡ is_of_days x
kind_kept n [] = refl
kind_kept n (b ∷ bs) = refl

-- as many bytes as one more than a sheet may have
pub front_same : (x : List ℕ) → sheet_output (take 32769 x) ≡ sheet_output x
front_same x = go (ltb 32768 (length x)) refl
  where
    go : (t : Bool) → ltb 32768 (length x) ≡ t → sheet_output (take 32769 x) ≡ sheet_output x
    go true e =
        let h : 32768 < length x = ltb-true 32768 (length x) e in
        let l : 32768 < length (take 32769 x) = let m = length-take 32769 x in omega arith in
        ap (λ (b : Bool). output_as b (take 32769 x)) (kind_kept 32768 x) ∙ long_same (is_of_days x) (take 32769 x) x l h
    go false e =
        let h : length x ≤ 32769 = let g = ltb-false 32768 (length x) e in omega arith in
        ap sheet_output (take_all 32769 x h)
