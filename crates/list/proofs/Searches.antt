-- Where a leaf is placed.
use Rattle.std.proofs.Common.{◌≡◌, ℕ, zero, suc, ◌<◌, Bool, true, false, ◌||◌, List, [], ◌∷◌, length, get_or, ap, ◌∙◌, arith}
use Rattle.std.proofs.lemmas.List.Folds.{list_any_at}
use Rattle.std.proofs.lemmas.Bool.{cond-false, cond-true}
use Rattle.std.specs.List.{insert as put_at}
use Rattle.list.specs.Lists.{any, inserted}

module _ {X : Type 0} where
  module _ (up : X → X → Bool) (x : X) where
    -- where all are later, it stands first
    none : (xs : List X) → ((k : ℕ) → k < length xs → up (get_or xs k x) x ≡ false) → any (λ z. up z x) xs ≡ false
    none [] l = λ i. false
    none (z ∷ zs) l = ap (λ b. b || any (λ z. up z x) zs) (l 0 (omega arith)) ∙ none zs (λ k h. l (suc k) (omega arith))

    pub put_first : (xs : List X) → ((k : ℕ) → k < length xs → up (get_or xs k x) x ≡ false) → inserted up x xs ≡ x ∷ xs
    put_first [] l = λ i. x ∷ []
    put_first (z ∷ zs) l = cond-false (any (λ z. up z x) (z ∷ zs)) (z ∷ inserted up x zs) (x ∷ (z ∷ zs)) (none (z ∷ zs) l)

    -- it stands behind the last that is no later
    pub put_behind : (xs : List X) (i : ℕ) → i < length xs → up (get_or xs i x) x ≡ true
        → ((k : ℕ) → i < k → k < length xs → up (get_or xs k x) x ≡ false) → inserted up x xs ≡ put_at xs (suc i) x
    put_behind [] i h t l = absurd (omega arith)
    put_behind (z ∷ zs) zero h t l =
        cond-true (any (λ z. up z x) (z ∷ zs)) (z ∷ inserted up x zs) (x ∷ (z ∷ zs)) (list_any_at (λ z. up z x) (z ∷ zs) 0 x h t)
        ∙ ap (λ r. z ∷ r) (put_first zs (λ k m. l (suc k) (omega arith) (omega arith)))
    put_behind (z ∷ zs) (suc i) h t l =
        cond-true (any (λ z. up z x) (z ∷ zs)) (z ∷ inserted up x zs) (x ∷ (z ∷ zs)) (list_any_at (λ z. up z x) (z ∷ zs) (suc i) x h t)
        ∙ ap (λ r. z ∷ r) (put_behind zs i (omega arith) t (λ k m n. l (suc k) (omega arith) (omega arith)))
