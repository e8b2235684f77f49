-- What a kind of leaf means, and the laws that it shows. A leaf is a window of values with a rule.
use Rattle.std.specs.Prelude.{◌≡◌, ℕ, Bool, true, false, cond, not, ◌&&◌, ◌||◌, ◌⊎◌, List, [], ◌∷◌, Some, None, Decides, Option}
use Rattle.faults.specs.Faults.{Answer}
use Rattle.leaf.specs.Layouts.{Layout, LayoutLaws, is_written_window, leaf_under, written_leaf}

-- The meaning of a kind: values of type V, leaves of type L. Every member answers for every leaf, lawful or not.
pub record Kind (V L : Type 0) : Type 1 where
  -- whether it is a value of the kind: a machine number stands for every number in the logic
  pub is_value : V → Bool
  -- the order of the values, and the next one
  pub le : V → V → Bool
  pub succ : V → Option V
  -- minimum at most maximum, and the rule as it is kept
  pub lawful : L → Bool
  pub minimum : L → Option V
  pub maximum : L → Option V
  -- the order of the rules, asked of two leaves
  pub rule_le : L → L → Bool
  -- the leaf's rule: its grid, what it admits, the next grid value, whether it covers the other's
  pub on_grid : L → V → Bool
  pub rule_admits : L → V → Bool
  pub next_on_grid : L → V → Option V
  pub rule_covers : L → L → Bool
  -- some leaf
  pub blank : L
  -- one leaf for two: the rule of the first, in a window round both
  pub join : L → L → L
  -- whether a sheet of this kind may begin with that byte
  pub kind_byte : ℕ → Bool
  -- how its leaves stand on a sheet that begins with that byte: by the fields of a leaf, a leaf as written, and what its fields make
  pub Role : Type 0
  pub Written : Type 0
  pub Made : Type 0
  pub layout : ℕ → Layout Role Written Made L
  -- whether a leaf as written means a value, in the kind's own words
  pub Meant : Written → V → Type 0
  -- of a sheet: which field, which test and which byte is meant by each of the refusals 4 to 9 but 8, in the kind's own words
  pub Refusals : List ℕ → Type 0

-- the first byte of a sheet; of an empty one, in which no leaf stands under any layout, 0
abbrev pub first_of : List ℕ → ℕ
first_of [] = 0
first_of (b ∷ bs) = b

-- the values and an end on either side
pub data Ext (V : Type 0) : Type 0 where
  bottom : Ext V
  value : V → Ext V
  top : Ext V

module _ {V : Type 0} where
  abbrev pub ext_le : (V → V → Bool) → Ext V → Ext V → Bool
  ext_le le bottom b = true
  ext_le le (value a) bottom = false
  ext_le le (value a) (value b) = le a b
  ext_le le (value a) top = true
  ext_le le top bottom = false
  ext_le le top (value b) = false
  ext_le le top top = true

  -- an absent minimum is lowest, an absent maximum is highest
  abbrev pub from : Option V → Ext V
  from None = bottom
  from (Some x) = value x

  abbrev pub upto : Option V → Ext V
  upto None = top
  upto (Some x) = value x

  -- the lower of two minimums and the higher of two maximums, an absent one being outermost
  abbrev pub lower_of : (V → V → Bool) → Option V → Option V → Option V
  lower_of le a b = cond (ext_le le (from a) (from b)) a b

  abbrev pub higher_of : (V → V → Bool) → Option V → Option V → Option V
  higher_of le a b = cond (ext_le le (upto a) (upto b)) b a

  -- minimum at most maximum, where both are there
  abbrev pub is_window_of : (V → V → Bool) → Option V → Option V → Bool
  is_window_of le low high = ext_le le (from low) (upto high)

  -- no grid value g, if there is one, lies below l
  abbrev pub none_below : (V → V → Bool) → Option V → V → Bool
  none_below le None l = true
  none_below le (Some g) l = le l g

  abbrev pub gapless : (V → V → Bool) → (V → Option V) → Option V → Option V → Bool
  gapless le next None l = true
  gapless le next (Some h) None = true
  gapless le next (Some h) (Some l) = none_below le (next h) l

module _ {V L : Type 0} (k : Kind V L) where
  abbrev pub same_rule : L → L → Bool
  same_rule a b = k.rule_le a b && k.rule_le b a

  -- a window joins the one before it: the rules tie, and that has no maximum, this has no minimum, or no grid value lies strictly between
  abbrev pub touches : L → L → Bool
  touches a b = same_rule a b && gapless k.le (k.next_on_grid a) (k.maximum a) (k.minimum b)

  -- the window holds the value, and the rule admits it
  abbrev pub admits : L → V → Bool
  admits a v = ext_le k.le (from (k.minimum a)) (value v) && (ext_le k.le (value v) (upto (k.maximum a)) && k.rule_admits a v)

  -- no later, by rule, then minimum
  abbrev pub before : L → L → Bool
  before a b = k.rule_le a b && (not (k.rule_le b a) || ext_le k.le (from (k.minimum a)) (from (k.minimum b)))

  -- the window includes the other's, and the rule covers the other's
  abbrev pub covers : L → L → Bool
  covers a b = ext_le k.le (from (k.minimum a)) (from (k.minimum b)) && (ext_le k.le (upto (k.maximum b)) (upto (k.maximum a)) && k.rule_covers a b)

  -- the lower of two minimums: no higher than either, and one of them; the higher of two maximums likewise
  abbrev pub Lower : Option V → Option V → Option V → Type 0
  Lower r a b = (ext_le k.le (from r) (from a) ≡ true) × (ext_le k.le (from r) (from b) ≡ true) × ((r ≡ a) ⊎ (r ≡ b))

  abbrev pub Higher : Option V → Option V → Option V → Type 0
  Higher r a b = (ext_le k.le (upto a) (upto r) ≡ true) × (ext_le k.le (upto b) (upto r) ≡ true) × ((r ≡ a) ⊎ (r ≡ b))

  abbrev pub is_bound : Option V → Bool
  is_bound None = true
  is_bound (Some v) = k.is_value v

  -- a minimum and a maximum that are values, the one at most the other
  abbrev pub is_value_window : Option V → Option V → Bool
  is_value_window x y = is_bound x && (is_bound y && is_window_of k.le x y)

  abbrev pub Lawful : L → Type 0
  Lawful a = k.lawful a ≡ true

  -- what a join is: lawful, of the rule of the first, with the lower minimum and the higher maximum
  pub record Joins (a b r : L) : Type 0 where
    pub lawful : Lawful r
    pub rule : same_rule a r ≡ true
    pub minimum : Lower (k.minimum r) (k.minimum a) (k.minimum b)
    pub maximum : Higher (k.maximum r) (k.maximum a) (k.maximum b)

  -- the layout by which a sheet is read, and the leaf that stands at one of its bytes
  abbrev pub layout_of : List ℕ → Layout k.Role k.Written k.Made L
  layout_of s = k.layout (first_of s)

  abbrev pub leaf_at : List ℕ → ℕ → Answer L
  leaf_at s at = leaf_under (layout_of s) s at

  pub record Laws : Type 0 where
    -- a total order of values
    pub le_total : (a b : V) → k.le a b ≡ false → k.le b a ≡ true
    pub le_trans : (a b c : V) → k.le a b ≡ true → k.le b c ≡ true → k.le a c ≡ true
    pub le_anti : (a b : V) → k.le a b ≡ true → k.le b a ≡ true → a ≡ b
    -- the least value above, absent exactly at the top
    pub succ_above : (v w : V) → k.is_value v ≡ true → k.succ v ≡ Some w → (k.is_value w ≡ true) × (k.le w v ≡ false)
    pub succ_least : (v w u : V) → k.is_value v ≡ true → k.succ v ≡ Some w → k.le u v ≡ false → k.le w u ≡ true
    pub succ_none : (v u : V) → k.is_value v ≡ true → k.succ v ≡ None → k.is_value u ≡ true → k.le u v ≡ true
    -- the bounds are values, minimum at most maximum
    pub window : (a : L) → Lawful a → is_value_window (k.minimum a) (k.maximum a) ≡ true
    -- a total order of rules, in which only equal rules tie: leaves of one rule share grid and admitted values, and a leaf is its rule and its window
    pub rule_total : (a b : L) → Lawful a → Lawful b → k.rule_le a b ≡ false → k.rule_le b a ≡ true
    pub rule_trans : (a b c : L) → Lawful a → Lawful b → Lawful c → k.rule_le a b ≡ true → k.rule_le b c ≡ true → k.rule_le a c ≡ true
    pub tie_grid : (a b : L) (v : V) → Lawful a → Lawful b → same_rule a b ≡ true → k.on_grid a v ≡ true → k.on_grid b v ≡ true
    pub tie_admits : (a b : L) (v : V) → Lawful a → Lawful b → same_rule a b ≡ true → k.rule_admits a v ≡ true → k.rule_admits b v ≡ true
    pub tie_equal : (a b : L) → Lawful a → Lawful b → same_rule a b ≡ true → k.minimum a ≡ k.minimum b → k.maximum a ≡ k.maximum b → a ≡ b
    -- a grid of values, and what is admitted is on it
    pub grid_value : (a : L) (v : V) → Lawful a → k.on_grid a v ≡ true → k.is_value v ≡ true
    pub admits_grid : (a : L) (v : V) → Lawful a → k.rule_admits a v ≡ true → k.on_grid a v ≡ true
    -- the least grid value strictly above, absent exactly if there is none
    pub next_grid : (a : L) (v w : V) → Lawful a → k.is_value v ≡ true → k.next_on_grid a v ≡ Some w → (k.on_grid a w ≡ true) × (k.le w v ≡ false)
    pub next_least : (a : L) (v w u : V) → Lawful a → k.is_value v ≡ true → k.next_on_grid a v ≡ Some w → k.on_grid a u ≡ true → k.le u v ≡ false → k.le w u ≡ true
    pub next_none : (a : L) (v u : V) → Lawful a → k.is_value v ≡ true → k.next_on_grid a v ≡ None → k.on_grid a u ≡ true → k.le u v ≡ true
    pub blank_lawful : Lawful k.blank
    -- of any two leaves the join is lawful, of the rule of the first, with the lower minimum and the higher maximum
    pub joins : (a b : L) → Lawful a → Lawful b → Joins a b (k.join a b)
    -- the cover relation: reflexive, transitive, two rules that cover each other are equal, and a covered rule admits nothing more
    pub covers_refl : (a b : L) → Lawful a → Lawful b → same_rule a b ≡ true → k.rule_covers a b ≡ true
    pub covers_trans : (a b c : L) → Lawful a → Lawful b → Lawful c → k.rule_covers a b ≡ true → k.rule_covers b c ≡ true → k.rule_covers a c ≡ true
    pub covers_anti : (a b : L) → Lawful a → Lawful b → k.rule_covers a b ≡ true → k.rule_covers b a ≡ true → same_rule a b ≡ true
    pub covers_admits : (a b : L) (v : V) → Lawful a → Lawful b → k.rule_covers a b ≡ true → k.rule_admits b v ≡ true → k.rule_admits a v ≡ true
    -- each layout shows its laws, and makes lawful leaves
    pub layouts : (b : ℕ) → LayoutLaws (k.layout b)
    pub written_lawful : (b : ℕ) (w : k.Written) → (k.layout b).fits w ≡ true → is_written_window (k.layout b) w ≡ true → Lawful (written_leaf (k.layout b) w)
    -- a leaf admits exactly the values that it means as it is written
    pub meant : (b : ℕ) (w : k.Written) (v : V) → (k.layout b).fits w ≡ true → k.is_value v ≡ true → Decides (admits (written_leaf (k.layout b) w) v) (k.Meant w v)
    -- and the kind's words are true of every sheet
    pub refusals : (s : List ℕ) → k.Refusals s
