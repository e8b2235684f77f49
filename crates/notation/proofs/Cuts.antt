-- A text cut at a byte.
use Rattle.std.proofs.Common.{◌≡◌, ℕ, suc, ◌+◌, ◌≤◌, ◌<◌, Bool, true, false, cond, not, eqb, ltb, List, [], ◌∷◌, length, take, drop, Some, None, refl, ap, ◌∙◌, arith}
use Rattle.std.proofs.lemmas.List.Sums.{prefix_len-le-length}
use Rattle.std.specs.List.{onto_first}
use Rattle.std.specs.Option.{unwrap_or}
use Rattle.notation.specs.Text.{index_of, lines_of}

within : (c : ℕ) (bs : List ℕ) → index_of c bs ≤ length bs
within c bs = prefix_len-le-length (λ b. not (eqb b c)) bs

pub index_or_end : (c : ℕ) (bs : List ℕ) → unwrap_or (cond (ltb (index_of c bs) (length bs)) (Some (index_of c bs)) None) (length bs) ≡ index_of c bs
index_or_end c bs = let h = within c bs in grind arith

first_line : (b : ℕ) (bs : List ℕ) → lines_of (b ∷ bs) ≡ take (index_of 10 (b ∷ bs)) (b ∷ bs) ∷ lines_of (drop (index_of 10 (b ∷ bs) + 1) (b ∷ bs))
first_line b [] = go (eqb b 10)
  where
    go : (t : Bool) → cond t ([] ∷ []) (onto_first b []) ≡ take (cond (not t) 1 0) (b ∷ []) ∷ lines_of (drop (cond (not t) 1 0 + 1) (b ∷ []))
    go true = refl
    go false = refl
first_line b (x ∷ xs) = go (eqb b 10) (first_line x xs)
  where
    go :
        (t : Bool) → lines_of (x ∷ xs) ≡ take (index_of 10 (x ∷ xs)) (x ∷ xs) ∷ lines_of (drop (index_of 10 (x ∷ xs) + 1) (x ∷ xs)) →
        cond t ([] ∷ lines_of (x ∷ xs)) (onto_first b (lines_of (x ∷ xs))) ≡
        take (cond (not t) (1 + index_of 10 (x ∷ xs)) 0) (b ∷ x ∷ xs) ∷ lines_of (drop (cond (not t) (1 + index_of 10 (x ∷ xs)) 0 + 1) (b ∷ x ∷ xs))
    go true ih = refl
    go false ih =
        let k = index_of 10 (x ∷ xs) in
        let e : suc k ≡ 1 + k = omega arith in
        let d : suc (k + 1) ≡ 1 + k + 1 = omega arith in
        ap (onto_first b) ih ∙
        (ap (λ (j : ℕ). take j (b ∷ x ∷ xs) ∷ lines_of (drop (suc (k + 1)) (b ∷ x ∷ xs))) e ∙ ap (λ (j : ℕ). take (1 + k) (b ∷ x ∷ xs) ∷ lines_of (drop j (b ∷ x ∷ xs))) d)

pub next_line : (bs : List ℕ) (i : ℕ) (line rest : List ℕ) → 0 < length bs → i ≡ index_of 10 bs → line ≡ take i bs → rest ≡ drop (i + 1) bs → lines_of bs ≡ line ∷ lines_of rest
next_line [] i line rest h e l r = absurd (omega arith)
next_line (b ∷ bs) i line rest h e l r = let f = first_line b bs in cc
