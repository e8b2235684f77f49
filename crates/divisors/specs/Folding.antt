-- Folding a list of required divisors: by its steps, and computed.
use Rattle.std.specs.Prelude.{◌≡◌, ℕ, zero, suc, ◌+◌, ◌-◌, ◌^◌, ◌<◌, Bool, true, false, cond, List, length, Some, None, sum_by, Option, ◌==◌, ◌≢◌, slice_index_or, slice_set}
use Rattle.std.specs.Option.{option_map}
use Rattle.std.specs.List.{remove}
use Rattle.divisors.specs.declared.folding.Pair.{Pair}
use Rattle.divisors.specs.declared.folding.Strip.{Strip}
use Rattle.divisors.specs.declared.fraction.Fraction.{Fraction}
use Rattle.divisors.specs.Fractions.{none}
use Rattle.divisors.specs.Joining.{join_of, strip_by}
use Rattle.divisors.specs.Lists.{Tidies, tidy_of}

-- the pair at places i and k has no join
abbrev pub Apart : List Fraction → ℕ → ℕ → Type 0
Apart xs i k = join_of (slice_index_or xs i none) (slice_index_or xs k none) ≡ None

-- no pair has a join
abbrev pub NoJoin : List Fraction → Type 0
NoJoin xs = (i k : ℕ) → i < k → k < length xs → Apart xs i k

-- the join of a pair, where no pair before it has one: lowest left, then lowest right
pub record FirstJoin (xs : List Fraction) (t : Pair) : Type 0 where
  pub ordered : t.left < t.right
  pub within : t.right < length xs
  pub joins : join_of (slice_index_or xs t.left none) (slice_index_or xs t.right none) ≡ Some t.join
  pub rows_before : (i k : ℕ) → i < t.left → i < k → k < length xs → Apart xs i k
  pub row_before : (k : ℕ) → t.left < k → k < t.right → Apart xs t.left k

-- the fraction at place i is not stripped by the one at place k
abbrev pub Firm : List Fraction → ℕ → ℕ → Type 0
Firm xs i k = strip_by (slice_index_or xs i none) (slice_index_or xs k none) ≡ None

-- none is stripped by another
abbrev pub NoStrip : List Fraction → Type 0
NoStrip xs = (i k : ℕ) → i < length xs → k < length xs → (i ≢ k) → Firm xs i k

-- what is left of the first fraction that another strips, by the lowest other that can
pub record FirstStrip (xs : List Fraction) (t : Strip) : Type 0 where
  pub within : t.at < length xs
  pub by_within : t.by < length xs
  pub other : t.at ≡ t.by → ⊥
  pub strips : strip_by (slice_index_or xs t.at none) (slice_index_or xs t.by none) ≡ Some t.left
  pub rows_before : (i k : ℕ) → i < t.at → k < length xs → (i ≢ k) → Firm xs i k
  pub row_before : (k : ℕ) → k < t.by → (t.at ≢ k) → Firm xs t.at k

-- the join stands in the place of the left one, and the right one goes
abbrev pub joined_by : Pair → List Fraction → List Fraction
joined_by t xs = remove (slice_set xs t.left t.join) t.right

-- what is left stands in the place of the one that was stripped
abbrev pub stripped_by : Strip → List Fraction → List Fraction
stripped_by t xs = slice_set xs t.at t.left

-- the first pair that has a join is joined, and the list made ascending again
pub record JoinsTo (xs ys : List Fraction) : Type 0 where
  pub pair : Pair
  pub first : FirstJoin xs pair
  pub tidies : Tidies (joined_by pair xs) ys

-- no pair has a join, the first fraction that another strips is stripped, and the list made ascending again
pub record StripsTo (xs ys : List Fraction) : Type 0 where
  pub joinless : NoJoin xs
  pub strip : Strip
  pub first : FirstStrip xs strip
  pub tidies : Tidies (stripped_by strip xs) ys

-- one step: a join, or else a strip
pub data StepsTo (xs ys : List Fraction) : Type 0 where
  joins : JoinsTo xs ys → StepsTo xs ys
  strips : StripsTo xs ys → StepsTo xs ys

-- xs folds to ys: by steps, until there is none
pub data FoldsTo : List Fraction → List Fraction → Type 0 where
  done : {xs : List Fraction} → NoJoin xs → NoStrip xs → FoldsTo xs xs
  stepped : {xs ys zs : List Fraction} → StepsTo xs ys → FoldsTo ys zs → FoldsTo xs zs

-- whether xs was joined to ys; where no pair has a join, nothing changed
abbrev pub TellsJoin : List Fraction → List Fraction → Bool → Type 0
TellsJoin xs ys true = JoinsTo xs ys
TellsJoin xs ys false = NoJoin xs × (ys ≡ xs)

-- whether xs was stripped to ys; where none strips another, nothing changed
abbrev pub TellsStrip : List Fraction → List Fraction → Bool → Type 0
TellsStrip xs ys true = StripsTo xs ys
TellsStrip xs ys false = NoStrip xs × (ys ≡ xs)

-- whether there was a step from xs to ys; where there is none, nothing changed
abbrev pub TellsStep : List Fraction → List Fraction → Bool → Type 0
TellsStep xs ys true = StepsTo xs ys
TellsStep xs ys false = NoJoin xs × NoStrip xs × (ys ≡ xs)

-- why it ends: each step makes the list lighter, where a fraction counts for more than any numerator
abbrev pub heavy : Fraction → ℕ
heavy f = 2 ^ 63 + f.p

abbrev pub weight : List Fraction → ℕ
weight xs = sum_by heavy xs

abbrev pub or_else : {A : Type 0} → Option A → Option A → Option A
or_else (Some x) o = Some x
or_else None o = o

-- what is found first among n numbers from i on
abbrev pub first_from : {A : Type 0} → (ℕ → Option A) → ℕ → ℕ → Option A
first_from f i zero = None
first_from f i (suc n) = or_else (f i) (first_from f (suc i) n)

abbrev pub join_at : List Fraction → ℕ → ℕ → Option Pair
join_at xs l r = option_map (λ j. record { left = l; right = r; join = j }) (join_of (slice_index_or xs l none) (slice_index_or xs r none))

-- the first join, computed
abbrev pub first_join_of : List Fraction → Option Pair
first_join_of xs = first_from (λ l. first_from (join_at xs l) (suc l) (length xs - suc l)) 0 (length xs)

abbrev pub strip_at : List Fraction → ℕ → ℕ → Option Strip
strip_at xs a b = cond (a == b) None (option_map (λ f. record { at = a; by = b; left = f }) (strip_by (slice_index_or xs a none) (slice_index_or xs b none)))

-- the first strip, computed
abbrev pub first_strip_of : List Fraction → Option Strip
first_strip_of xs = first_from (λ a. first_from (strip_at xs a) 0 (length xs)) 0 (length xs)

-- at most so many steps
unfoldable pub fold_in : ℕ → List Fraction → List Fraction
fold_in zero xs = xs
fold_in (suc k) xs =
    elim (first_join_of xs) [
      | Some t ↦ fold_in k (tidy_of (joined_by t xs))
      | None ↦ elim (first_strip_of xs) [ Some t ↦ fold_in k (tidy_of (stripped_by t xs)) | None ↦ xs ]
    ]

-- what a list folds to, computed
unfoldable pub fold_of : List Fraction → List Fraction
fold_of xs = fold_in (suc (weight xs)) xs
