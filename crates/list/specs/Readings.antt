-- What a reading of leaves is: they are joined to windows wherever no grid value parts them, and of these windows the lines are those that no other covers.
use Rattle.std.specs.Prelude.{◌≡◌, true, false, ◌⊎◌, ◌↔◌, List, Some}
use Rattle.leaf.specs.Kind.{Kind, Lawful, ext_le, from, upto, same_rule, before, covers}
use Rattle.leaf.specs.Kind.Ext.{value}
use Rattle.list.specs.Lists.{All, Any, In, Pairs}

module _ {V L : Type 0} (k : Kind V L) where
  -- the window of a holds v
  abbrev pub InWindow : L → V → Type 0
  InWindow a v = (ext_le k.le (from (k.minimum a)) (value v) ≡ true) × (ext_le k.le (value v) (upto (k.maximum a)) ≡ true)

  -- b has the rule of a, and the window of a includes b's
  abbrev pub Holds : L → L → Type 0
  Holds a b =
      (same_rule k a b ≡ true) × (ext_le k.le (from (k.minimum a)) (from (k.minimum b)) ≡ true) × (ext_le k.le (upto (k.maximum b)) (upto (k.maximum a)) ≡ true)

  -- a grid value of a's rule above a's maximum and below b's minimum
  abbrev pub Between : L → L → Type 0
  Between a b = (h l g : V) × (k.maximum a ≡ Some h) × (k.minimum b ≡ Some l) × (k.on_grid a g ≡ true) × (k.le g h ≡ false) × (k.le l g ≡ false)

  -- a comes before b and is not joined with it: its rule is lower, or they have one rule and a grid value lies between them
  abbrev pub Apart : L → L → Type 0
  Apart a b = (k.rule_le b a ≡ false) ⊎ ((same_rule k a b ≡ true) × Between a b)

  -- the window of j is made of leaves of xs that have its rule
  pub record Made (xs : List L) (j : L) : Type 0 where
    -- one has its minimum, one has its maximum
    pub minimum : Any (λ x. (same_rule k j x ≡ true) × (k.minimum j ≡ k.minimum x)) xs
    pub maximum : Any (λ x. (same_rule k j x ≡ true) × (k.maximum j ≡ k.maximum x)) xs
    -- it holds no grid value that none of them holds
    pub filled : (g : V) → k.on_grid j g ≡ true → InWindow j g → Any (λ x. (same_rule k j x ≡ true) × InWindow x g) xs

  -- joined as far as they can be, the leaves xs are js
  pub record Merged (xs js : List L) : Type 0 where
    pub lawful : All (Lawful k) js
    -- they stand in order, and no two are left to be joined
    pub apart : Pairs Apart js
    -- each leaf lies in one of them
    pub held : All (λ x. Any (λ j. Holds j x) js) xs
    -- and no more than the leaves lies in them
    pub made : All (Made xs) js

  -- ys are those of js that no other covers
  pub record Uncovered (js ys : List L) : Type 0 where
    -- in the same order
    pub apart : Pairs Apart ys
    pub those : (y : L) → In y ys ↔ (In y js × ((j : L) → In j js → covers k j y ≡ true → j ≡ y))

  -- the lines ys are the reading of the leaves xs
  pub record Reads (xs ys : List L) : Type 0 where
    pub windows : List L
    pub merged : Merged xs windows
    pub uncovered : Uncovered windows ys

  -- a reading has one answer, in whatever order and however often the leaves come
  abbrev pub OneReading : Type 0
  OneReading = (xs ys vs ws : List L) → All (Lawful k) xs → ((x : L) → In x xs ↔ In x ys) → Reads xs vs → Reads ys ws → vs ≡ ws

  -- what ties the lines ys to the leaves xs, wherever readings came between these
  pub record Pinned (xs ys : List L) : Type 0 where
    pub ascending : Pairs (λ a b. before k a b ≡ true) ys
    -- a line covers each leaf
    pub covered : All (λ x. Any (λ y. covers k y x ≡ true) ys) xs
    -- and each line is made of leaves
    pub made : All (Made xs) ys
