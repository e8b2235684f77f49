-- The leaves of bytes, one by one: those read so far stand in front in the table.
use Rattle.std.proofs.Common.{◌≡◌, ℕ, zero, suc, ◌+◌, ◌-◌, ◌<◌, List, [], ◌∷◌, ◌++◌, length, take, Ok, Err, sym, refl, ap, ◌∙◌, arith, rules, slice_set}
use Rattle.std.proofs.lemmas.List.{append_assoc, append-nil, take_more_set, take-set}
use Rattle.faults.specs.declared.fault.Fault.{Fault}
use Rattle.faults.specs.Faults.{Answer, found, refused, Fills}
use Rattle.leaf.specs.Grammar.{WellRead}
use Rattle.leaf.specs.Kind.{Kind, Laws, Lawful, leaf_at}
use Rattle.leaf.specs.Laws.Judging.{well_read}
use Rattle.list.specs.Lists.{All}
use Rattle.list.specs.Sheets.{judged}
use Rattle.foreign.specs.Running.{made_of}

module _ {V L : Type 0} (k : Kind V L) (bytes : List ℕ) where
  abbrev met : ℕ → Answer L → List L
  met n a = judged a (λ r. []) (λ x e. x ∷ made_of k n bytes e)

  met_ok : (n : ℕ) (a : Answer L) (old new : L) (end : ℕ) → Fills a old new (Ok end) → met n a ≡ new ∷ made_of k n bytes end
  met_ok n (found x e) old new end f = search (rules, f)
  met_ok n (refused r) old new end f = absurd f

  met_err : (n : ℕ) (a : Answer L) (old new : L) (g : Fault) → Fills a old new (Err g) → met n a ≡ []
  met_err n (found x e) old new g f = absurd (search (rules, f))
  met_err n (refused r) old new g f = refl

  module _ (m n at : ℕ) (xs : List L) (old new : L) (h : n < m) where
    next : made_of k (m - n) bytes at ≡ met (m - (n + 1)) (leaf_at k bytes at)
    next = let e : m - n ≡ suc (m - (n + 1)) = omega arith in ap (λ i. made_of k i bytes at) e

    -- one leaf more
    pub made_more : (end : ℕ) → length xs ≡ m → Fills (leaf_at k bytes at) old new (Ok end)
        → take (n + 1) (slice_set xs n new) ++ made_of k (m - (n + 1)) bytes end ≡ take n xs ++ made_of k (m - n) bytes at
    made_more end l f =
        let rest = made_of k (m - (n + 1)) bytes end in
        ap (λ ys. ys ++ rest) (take_more_set xs n new (omega (arith, l, h)))
        ∙ append_assoc (take n xs) (new ∷ []) rest
        ∙ ap (λ ys. take n xs ++ ys) (sym (next ∙ met_ok (m - (n + 1)) (leaf_at k bytes at) old new end f))

    -- and none after a refusal
    pub made_all : (g : Fault) → Fills (leaf_at k bytes at) old new (Err g) → take n (slice_set xs n new) ≡ take n xs ++ made_of k (m - n) bytes at
    made_all g f =
        take-set xs n new ∙ sym (append-nil (take n xs)) ∙ ap (λ ys. take n xs ++ ys) (sym (next ∙ met_err (m - (n + 1)) (leaf_at k bytes at) old new g f))

  -- what is read is lawful
  module _ (w : Laws k) where
    lawful_met : (n : ℕ) (at : ℕ) (a : Answer L) → ((e : ℕ) → All (Lawful k) (made_of k n bytes e)) → WellRead k bytes at a → All (Lawful k) (met n a)
    lawful_met n at (found x e) more r = (r.0, more e)
    lawful_met n at (refused f) more r = tt

    pub made_lawful : (n at : ℕ) → All (Lawful k) (made_of k n bytes at)
    made_lawful zero at = tt
    made_lawful (suc n) at = lawful_met n at (leaf_at k bytes at) (made_lawful n) (well_read k w bytes at)
