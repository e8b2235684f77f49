-- Leaves over a total order E that has the values and the two ends: lo and hi are a leaf's bounds in it.
use Rattle.std.proofs.Common.{◌≡◌, Bool, true, false, not, ◌&&◌, ◌||◌, ◌⊎◌, List}
use Rattle.list.specs.Lists.{Any}

pub record Ops (E L : Type 0) : Type 0 where
  pub le : E → E → Bool
  pub lo : L → E
  pub hi : L → E
  pub ok : L → Bool
  pub rle : L → L → Bool
  pub grid : L → E → Bool
  pub touch : L → L → Bool
  pub join : L → L → L
  pub rcov : L → L → Bool

module _ {E L : Type 0} (o : Ops E L) where
  abbrev pub Le : E → E → Type 0
  Le a b = o.le a b ≡ true

  abbrev pub Lt : E → E → Type 0
  Lt a b = o.le b a ≡ false

  abbrev pub Ok : L → Type 0
  Ok a = o.ok a ≡ true

  abbrev pub Same : L → L → Type 0
  Same a b = (o.rle a b ≡ true) × (o.rle b a ≡ true)

  abbrev pub Within : L → L → Type 0
  Within a b = Same a b × Le (o.lo b) (o.lo a) × Le (o.hi a) (o.hi b)

  -- a grid value stands between a and the later b
  abbrev pub Gap : L → L → Type 0
  Gap a b = (g : E) × (o.grid a g ≡ true) × Lt (o.hi a) g × Lt g (o.lo b)

  abbrev pub Apart : L → L → Type 0
  Apart a b = (o.rle b a ≡ false) ⊎ (Same a b × Gap a b)

  abbrev pub Up : L → L → Type 0
  Up a b = (o.rle a b ≡ true) × (o.rle b a ≡ true → Le (o.lo a) (o.lo b))

  abbrev pub up : L → L → Bool
  up a b = o.rle a b && (not (o.rle b a) || o.le (o.lo a) (o.lo b))

  abbrev pub Inside : L → E → Type 0
  Inside a v = Le (o.lo a) v × Le v (o.hi a)

  -- of the leaves xs with j's rule one has its lower bound, one has its upper bound, and each grid value inside j is inside one
  abbrev pub Made : List L → L → Type 0
  Made xs j =
      Any (λ x. Same j x × (o.lo j ≡ o.lo x)) xs
      × Any (λ x. Same j x × (o.hi j ≡ o.hi x)) xs
      × ((g : E) → o.grid j g ≡ true → Inside j g → Any (λ x. Same j x × Inside x g) xs)

  abbrev pub cov : L → L → Bool
  cov a b = o.le (o.lo a) (o.lo b) && (o.le (o.hi b) (o.hi a) && o.rcov a b)

  abbrev pub Cov : L → L → Type 0
  Cov a b = (o.rcov a b ≡ true) × Le (o.lo a) (o.lo b) × Le (o.hi b) (o.hi a)

pub record Laws {E L : Type 0} (o : Ops E L) : Type 0 where
  pub le_total : (a b : E) → Lt o b a → Le o b a
  pub le_trans : (a b c : E) → Le o a b → Le o b c → Le o a c
  pub window : (a : L) → Ok o a → Le o (o.lo a) (o.hi a)
  pub rle_total : (a b : L) → Ok o a → Ok o b → o.rle a b ≡ false → o.rle b a ≡ true
  pub rle_trans : (a b c : L) → Ok o a → Ok o b → Ok o c → o.rle a b ≡ true → o.rle b c ≡ true → o.rle a c ≡ true
  -- a leaf is what its rule and its window are
  pub fuse : (a b : L) → Ok o a → Ok o b → Within o a b → Within o b a → a ≡ b
  pub same_grid : (a b : L) (v : E) → Ok o a → Ok o b → Same o a b → o.grid a v ≡ true → o.grid b v ≡ true
  pub touch_same : (a b : L) → Ok o a → Ok o b → o.touch a b ≡ true → Same o a b
  pub touch_none : (a b : L) → Ok o a → Ok o b → o.touch a b ≡ true → Gap o a b → ⊥
  pub touch_gap : (a b : L) → Ok o a → Ok o b → o.touch a b ≡ false → Same o a b → Gap o a b
  pub join_ok : (a b : L) → Ok o a → Ok o b → Same o a b → Ok o (o.join a b)
  pub join_left : (a b : L) → Ok o a → Ok o b → Same o a b → Within o a (o.join a b)
  pub join_right : (a b : L) → Ok o a → Ok o b → Same o a b → Within o b (o.join a b)
  pub join_lo : (a b : L) → Ok o a → Ok o b → Same o a b → (o.lo (o.join a b) ≡ o.lo a) ⊎ (o.lo (o.join a b) ≡ o.lo b)
  pub join_hi : (a b : L) → Ok o a → Ok o b → Same o a b → (o.hi (o.join a b) ≡ o.hi a) ⊎ (o.hi (o.join a b) ≡ o.hi b)
  pub rcov_same : (a b : L) → Ok o a → Ok o b → Same o a b → o.rcov a b ≡ true
  pub rcov_trans : (a b c : L) → Ok o a → Ok o b → Ok o c → o.rcov a b ≡ true → o.rcov b c ≡ true → o.rcov a c ≡ true
  pub rcov_anti : (a b : L) → Ok o a → Ok o b → o.rcov a b ≡ true → o.rcov b a ≡ true → Same o a b
