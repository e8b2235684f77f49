-- Lines by their numbers, one after another.
use Rattle.std.proofs.Common.{◌≡◌, ℕ, zero, suc, ◌+◌, ◌<◌, ◌≤◌, true, List, [], ◌∷◌, length, get_or, drop, cond, Option, is_some, slice_get, unwrap_or, ap, refl, arith, drop-cons, add-one, drop_of_length-le, subst, append-nil}
use Rattle.std.specs.Io.KnownBytes.{Appends}
use Rattle.leaf.specs.Kind.{Kind}
use Rattle.list.specs.Held.{held_of, lines_of}
use Rattle.list.specs.Runs.{reading}
use Rattle.list.specs.declared.leaves.Leaves.{Leaves}
use Rattle.notation.specs.Laws.Numbered.{Writes, all_written, appends_none, one_written}

-- where nothing came since the last reading, the lines are what is held
pub read_lines : {V L : Type 0} (k : Kind V L) (l : Leaves V L) → l.canonical ≡ true → lines_of k l ≡ held_of l
read_lines k l e = ap (λ b. cond b (held_of l) (reading k (held_of l))) e

-- an element below the length is there
pub is_there : {X : Type 0} (xs : List X) (n : ℕ) → n < length xs → is_some (slice_get xs n) ≡ true
is_there [] n h = absurd (omega (arith, h))
is_there (x ∷ xs) zero h = refl
is_there (x ∷ xs) (suc n) h = is_there xs n (omega (arith, h))

pub one_at : {X : Type 0} (xs : List X) (n : ℕ) (d : X) → unwrap_or (slice_get xs n) d ≡ get_or xs n d
one_at [] n d = refl
one_at (x ∷ xs) zero d = refl
one_at (x ∷ xs) (suc n) d = one_at xs n d

module _ {X : Type 0} (text : ℕ → X → List ℕ) (all : List ℕ) (was : Option (List ℕ)) where
  -- line i, which has number i + 1, is written
  pub line_written : (u v : Option (List ℕ)) (i : ℕ) (xs : List X) (x d : X) → Writes text all was u (i + 1) (drop i xs) → i < length xs → x ≡ get_or xs i d → Appends u v (text (i + 1) x) →
      Writes text all was v (i + 1 + 1) (drop (i + 1) xs)
  line_written u v i xs x d w h e a =
      let s : drop i xs ≡ x ∷ drop (i + 1) xs = rw (e, add-one) (drop-cons xs i d h) in
      one_written text all was u v (i + 1) (i + 1 + 1) x (drop (i + 1) xs) (drop i xs) w s a refl

  -- the last was written
  pub lines_written : (u : Option (List ℕ)) (i : ℕ) (xs : List X) → Writes text all was u (i + 1) (drop i xs) → length xs ≤ i → Appends was u all
  lines_written u i xs w h = subst (Appends was u) (append-nil all) (all_written text all was u u (i + 1) (drop i xs) [] w (drop_of_length-le xs h) (appends_none u))
