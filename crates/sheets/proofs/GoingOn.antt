-- The leaves behind the first ones of a sheet go on.
use Rattle.std.proofs.Common.{◌≡◌, ℕ, zero, suc, min, List, [], ◌∷◌, ◌++◌, length, take, drop, sym, ap, refl, ◌∙◌, arith}
use Rattle.std.proofs.lemmas.List.{drop_at, drop-drop, length-append}
use Rattle.leaf.specs.Kind.{Kind}
use Rattle.leaf.specs.Layouts.{bytes_of}
use Rattle.list.specs.Encoded.{leaves_bytes}
use Rattle.amounts.specs.Amounts.{amounts}
use Rattle.days.specs.Days.{days}
use Rattle.sheets.specs.Rest.{GoesOn, RestsGoOn, rest_sheet}

rest_behind : (m b : ℕ) (xs : List ℕ) → rest_sheet (suc m) (b ∷ xs) ≡ b ∷ drop m xs
rest_behind m b xs = let one : min (suc m) 1 ≡ 1 = omega arith in ap (λ (i : ℕ). take i (b ∷ xs) ++ drop (suc m) (b ∷ xs)) one

module _ {V L : Type 0} (k : Kind V L) (b : ℕ) where
  leaves_behind : (m : ℕ) (ws : List k.Written) → drop (length (leaves_bytes k b (take m ws))) (leaves_bytes k b ws) ≡ leaves_bytes k b (drop m ws)
  leaves_behind zero ws = refl
  leaves_behind (suc m) [] = refl
  leaves_behind (suc m) (w ∷ ws) =
      let first = bytes_of (k.layout b) w in
      let front = leaves_bytes k b (take m ws) in
      let all = leaves_bytes k b ws in
      ap (λ (i : ℕ). drop i (first ++ all)) (length-append first front)
      ∙ sym (drop-drop (length front) (length first) (first ++ all))
      ∙ ap (drop (length front)) (drop_at first all (length first) refl) ∙ leaves_behind m ws

goes_on : {V L : Type 0} (k : Kind V L) → GoesOn k
goes_on k n b ws = rest_behind (length (leaves_bytes k b (take n ws))) b (leaves_bytes k b ws) ∙ ap (λ (xs : List ℕ). b ∷ xs) (leaves_behind k b n ws)

pub rests_go_on : RestsGoOn
unfolding RestsGoOn
rests_go_on = record { amount_sheets = goes_on amounts; day_sheets = goes_on days }
