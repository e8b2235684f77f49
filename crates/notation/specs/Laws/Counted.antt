-- Items counted one after another, by a count that stops at the last that 64 bits hold.
use Rattle.std.proofs.Common.{◌≡◌, ℕ, ◌+◌, ◌-◌, ◌≤◌, ◌^◌, min, Bool, true, false, cond, List, [], ◌∷◌, length, count_by, sym, ap, ◌∙◌, arith}
use Rattle.std.proofs.lemmas.List.Sums.{count_by-le-length, sum_by-cons}

module _ {X : Type 0} (p : X → Bool) (all : List X) where
  -- the count so far, and what is left to count, are the count of all
  pub record Counts (n : ℕ) (rest : List X) : Type 0 where
    pub whole : n + count_by p rest ≡ count_by p all

  pub none_counted : Counts 0 all
  none_counted = record { whole = omega arith }

  pub one_counted : (n m : ℕ) (x : X) (xs ys : List X) → length all ≤ 2 ^ 63 → Counts n ys → ys ≡ x ∷ xs → m ≡ cond (p x) (min (n + 1) (2 ^ 64 - 1)) n → Counts m xs
  one_counted n m x xs ys few c s e = record { whole = go (p x) (ap (λ (i : ℕ). n + i) (sym (sum_by-cons (λ (y : X). cond (p y) 1 0) x xs)) ∙ ap (λ (zs : List X). n + count_by p zs) (sym s) ∙ c.whole) e }
    where
      go : (b : Bool) → n + (cond b 1 0 + count_by p xs) ≡ count_by p all → m ≡ cond b (min (n + 1) (2 ^ 64 - 1)) n → m + count_by p xs ≡ count_by p all
      go true w h = let most = count_by-le-length p all in omega arith
      go false w h = omega arith

  pub all_counted : (n : ℕ) (xs : List X) → Counts n xs → xs ≡ [] → n ≡ count_by p all
  all_counted n xs c s = let whole : n + count_by p [] ≡ count_by p all = ap (λ (zs : List X). n + count_by p zs) (sym s) ∙ c.whole in omega arith
