-- What a run of a list comes to.
use Rattle.std.specs.Prelude.{◌≡◌, ℕ, zero, suc, false, List, [], ◌∷◌, length, map, filter}
use Rattle.leaf.specs.Kind.{Kind, admits, leaf_at}
use Rattle.list.specs.Lists.{any}
use Rattle.list.specs.Runs.{reading, run}
use Rattle.list.specs.Runs.Call.{insert}
use Rattle.list.specs.Sheets.{judged}
use Rattle.foreign.specs.declared.running.Run.{Run}

module _ {V L : Type 0} (k : Kind V L) where
  -- the leaves that stand one after the other from a byte on, at most n of them, up to one that is refused
  abbrev pub made_of : ℕ → List ℕ → ℕ → List L
  made_of zero bytes at = []
  made_of (suc n) bytes at = judged (leaf_at k bytes at) (λ r. []) (λ x e. x ∷ made_of n bytes e)

  -- how many lines a reading of the leaves leaves; without a reading none are counted
  abbrev pub read_or_none : ℕ → List L → ℕ
  read_or_none zero h = 0
  read_or_none (suc n) h = length (reading k h)

  -- they are inserted into a new list of n places, then come the questions, then the readings
  pub record Counts (n : ℕ) (bytes : List ℕ) (values : List V) (readings : ℕ) (r : Run) : Type 0 where
    pub leaves : r.leaves ≡ length (made_of n bytes 0)
    pub yes : r.yes ≡ length (filter (λ v. any (λ x. admits k x v) (run k n (map insert (made_of n bytes 0)))) values)
    pub lines : r.lines ≡ read_or_none readings (run k n (map insert (made_of n bytes 0)))

-- nothing is told: all is zero
abbrev pub CountsNothing : Run → Type 0
CountsNothing r = r ≡ record { done = false; leaves = 0; yes = 0; lines = 0 }
