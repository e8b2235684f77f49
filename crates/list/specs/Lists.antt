-- Lists: what holds of each element, of one, of each two in order; an element put into its place, neighbours joined, what another covers dropped.
use Rattle.std.specs.Prelude.{◌≡◌, Bool, true, false, cond, ◌||◌, ◌⊎◌, List, [], ◌∷◌, ◌++◌}
use Rattle.std.specs.List.{list_any}

module _ {X : Type 0} where
  abbrev pub All : (X → Type 0) → List X → Type 0
  All P [] = Unit {0}
  All P (x ∷ xs) = P x × All P xs

  abbrev pub Any : (X → Type 0) → List X → Type 0
  Any P [] = ⊥
  Any P (x ∷ xs) = P x ⊎ Any P xs

  abbrev pub In : X → List X → Type 0
  In x xs = Any (λ y. x ≡ y) xs

  -- R from each element to each later one
  abbrev pub Pairs : (X → X → Type 0) → List X → Type 0
  Pairs R [] = Unit {0}
  Pairs R (x ∷ xs) = All (R x) xs × Pairs R xs

  abbrev pub any : (X → Bool) → List X → Bool
  any = list_any

  -- behind the last that is no later, which in a list in order is after its equals
  abbrev pub inserted : (X → X → Bool) → X → List X → List X
  inserted up x [] = x ∷ []
  inserted up x (y ∷ ys) = cond (any (λ z. up z x) (y ∷ ys)) (y ∷ inserted up x ys) (x ∷ (y ∷ ys))

  -- one after the other
  abbrev pub inserted_all : (X → X → Bool) → List X → List X → List X
  inserted_all up [] ys = ys
  inserted_all up (x ∷ xs) ys = inserted_all up xs (inserted up x ys)

  -- x was put into its place: behind all that are no later, before all that are later
  pub record Placed (up : X → X → Bool) (x : X) (xs ys : List X) : Type 0 where
    pub front : List X
    pub back : List X
    pub was : xs ≡ front ++ back
    pub is : ys ≡ front ++ x ∷ back
    pub no_later : All (λ y. up y x ≡ true) front
    pub later : All (λ y. up y x ≡ false) back

  -- neighbours joined, from the first on: a stands for all that has joined so far
  abbrev pub joined_on : (X → X → Bool) → (X → X → X) → X → List X → List X
  joined_on touch join a [] = a ∷ []
  joined_on touch join a (x ∷ xs) = cond (touch a x) (joined_on touch join (join a x) xs) (a ∷ joined_on touch join x xs)

  abbrev pub joined : (X → X → Bool) → (X → X → X) → List X → List X
  joined touch join [] = []
  joined touch join (x ∷ xs) = joined_on touch join x xs

  -- whether one of those before x or after it covers x; cov y x: y covers x
  abbrev pub is_covered_by : (X → X → Bool) → X → List X → List X → Bool
  is_covered_by cov x before after = any (λ y. cov y x) before || any (λ y. cov y x) after

  -- each that no other covers; what stands before is given in reverse
  abbrev pub kept_on : (X → X → Bool) → List X → List X → List X
  kept_on cov before [] = []
  kept_on cov before (x ∷ after) =
      cond (is_covered_by cov x before after) (kept_on cov (x ∷ before) after) (x ∷ kept_on cov (x ∷ before) after)

  abbrev pub kept : (X → X → Bool) → List X → List X
  kept cov xs = kept_on cov [] xs
