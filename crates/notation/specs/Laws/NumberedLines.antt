-- A loop over the lines of a text beside their numbers, which end only where the lines do.
use Rattle.std.proofs.Common.{◌≡◌, ◌⊎◌, inl, inr, ℕ, ◌+◌, ◌-◌, ◌≤◌, ◌<◌, ◌^◌, Bool, true, false, cond, List, [], ◌∷◌, length, ap, eqb, arith}
use Rattle.std.specs.List.{onto_first}
use Rattle.std.specs.Iterator.Adapters.{zip_first, zip_second}
use Rattle.std.specs.declared.iter.Zip.{Zip}
use Rattle.std.specs.declared.ops.RangeFrom.{RangeFrom}
use Rattle.notation.specs.declared.text_lines.Lines.{Lines}
use Rattle.notation.specs.Text.{lines_of}

-- a text has no more lines than bytes
pub few_lines : (bs : List ℕ) → length (lines_of bs) ≤ length bs
few_lines [] = omega arith
few_lines (b ∷ bs) = go (eqb b 10) (lines_of bs) (few_lines bs)
  where
    go : (t : Bool) (ls : List (List ℕ)) → length ls ≤ length bs → length (cond t ([] ∷ ls) (onto_first b ls)) ≤ length (b ∷ bs)
    go true ls h = omega arith
    go false [] h = omega arith
    go false (l ∷ ls) h = omega arith

module _ (s : Zip (RangeFrom ℕ) Lines) where
  -- the next number, and the lines that are left
  abbrev pub number : ℕ
  number = (zip_first s).start

  abbrev pub left : List (List ℕ)
  left = lines_of (zip_second s).rest.now

  -- the numbers suffice for the lines
  abbrev pub Fits : Type 0
  Fits = number + length left ≤ 2 ^ 63

  pub no_line_left :
      Fits → ((x : RangeFrom ℕ) × ((2 ^ 64 - 1 - (zip_first s).start ≡ 0) × (x ≡ zip_first s))) ⊎ ((y : Lines) × ((lines_of (zip_second s).rest.now ≡ []) × (lines_of y.rest.now ≡ []))) →
      left ≡ []
  no_line_left f (inl e) = let none = e.1.0 in absurd (omega arith)
  no_line_left f (inr e) = e.1.0

pub next_fits : (s t : Zip (RangeFrom ℕ) Lines) (k : ℕ) (line : List ℕ) → Fits s → k ≡ number s → number t ≡ k + 1 → left s ≡ line ∷ left t → Fits t
next_fits s t k line f e n l =
    let f' : number s + length (left s) ≤ 2 ^ 63 = f in
    let m : length (left s) ≡ length (line ∷ left t) = ap length l in
    let g : number t + length (left t) ≤ 2 ^ 63 = omega arith in
    g

pub first_fits : (s : Zip (RangeFrom ℕ) Lines) (bs : List ℕ) → number s ≡ 1 → left s ≡ lines_of bs → length bs < 2 ^ 63 → Fits s
first_fits s bs e l h =
    let few = few_lines bs in
    let m : length (left s) ≡ length (lines_of bs) = ap length l in
    let g : number s + length (left s) ≤ 2 ^ 63 = omega arith in
    g
