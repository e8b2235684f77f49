-- Which bytes are a leaf of a kind, wherever they stand.
use Rattle.std.specs.Prelude.{◌≡◌, ℕ, ◌+◌, ◌<◌, ◌≤◌, true, List, ◌∷◌, ◌++◌, length, Decides}
use Rattle.faults.specs.Faults.{Answer, found, refused}
use Rattle.leaf.specs.Kind.{Kind, Lawful, admits, layout_of, leaf_at}
use Rattle.leaf.specs.Layouts.{LeafJudged, StandAsLeaf, bytes_of, is_written_window, written_leaf}

module _ {V L : Type 0} (k : Kind V L) where
  -- each answer about the leaf that stands at a byte comes on its condition and on no other
  abbrev pub AnswersStand : List ℕ → ℕ → Type 0
  AnswersStand s at = LeafJudged (layout_of k s) s at (leaf_at k s at)

  -- on a sheet that begins with the byte b
  pub record LeafGrammar : Type 0 where
    -- the bytes of a leaf are read as that leaf, wherever they stand behind that byte
    pub read_back : (b : ℕ) (w : k.Written) (front rest : List ℕ) → (k.layout b).fits w ≡ true → is_written_window (k.layout b) w ≡ true →
        leaf_at k ((b ∷ front) ++ (bytes_of (k.layout b) w ++ rest)) (length (b ∷ front)) ≡ found (written_leaf (k.layout b) w) (length (b ∷ front) + length (bytes_of (k.layout b) w))
    -- and are those of no other leaf
    pub alone : (b : ℕ) (w v : k.Written) (rest others : List ℕ) → (k.layout b).fits w ≡ true → (k.layout b).fits v ≡ true → bytes_of (k.layout b) w ++ rest ≡ bytes_of (k.layout b) v ++ others → w ≡ v

  -- what is read is lawful and ends past its start and within the sheet
  abbrev pub WellRead : List ℕ → ℕ → Answer L → Type 0
  WellRead s at (found x end) = Lawful k x × (at < end) × (end ≤ length s)
  WellRead s at (refused f) = Unit {0}

  -- a leaf as written stands there up to another byte, and x admits exactly the values that it means
  abbrev pub StandsFor : List ℕ → ℕ → L → ℕ → Type 0
  StandsFor s at x end =
      (w : k.Written) × ((layout_of k s).fits w ≡ true) × StandAsLeaf s at ((layout_of k s).numbers w) end
      × ((v : V) → k.is_value v ≡ true → Decides (admits k x v) (k.Meant w v))

  -- what is read from any sheet means what is written there
  abbrev pub ReadMeans : Type 0
  ReadMeans = (s : List ℕ) (at : ℕ) (x : L) (end : ℕ) → leaf_at k s at ≡ found x end → StandsFor s at x end
