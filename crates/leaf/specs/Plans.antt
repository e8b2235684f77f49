-- How a leaf stands on a sheet, stated once: a table of fields, and a plan, which says in what order they are due and what they make.
use Rattle.std.specs.Prelude.{◌≡◌, ℕ, zero, suc, ◌+◌, Bool, true, false, cond, ◌⊎◌, List, [], ◌∷◌, ◌++◌, drop, Some, None, Option, ⊤}
use Rattle.faults.specs.Faults.{Answer, found, refused, next, at_byte}
use Rattle.leaf.specs.declared.bounds.Bounds.{Bounds}
use Rattle.leaf.specs.Numbers.{has_bit}
use Rattle.leaf.specs.Encoding.{Written}
use Rattle.leaf.specs.Fields.{Shape, Stands, Ends, Misspelt, shape_at}

pub record Table (Role : Type 0) : Type 0 where
  pub shape : Role → Shape
  -- whether that may stand in the field
  pub fits : Role → ℕ → Bool
  -- the refusal of what does not fit, and the byte that it names, from the field's place
  pub refusal : Role → ℕ
  pub named : Role → ℕ → ℕ

-- nothing more is due; a field, and then what its place and its number bring; one of two; a part, and then what that made brings
pub data Plan (Role : Type 0) : Type 0 → Type 1 where
  done : {A : Type 0} → A → Plan Role A
  ask : {A : Type 0} → Role → (ℕ → ℕ → Plan Role A) → Plan Role A
  either : {A : Type 0} → Bool → Plan Role A → Plan Role A → Plan Role A
  then : {A B : Type 0} → Plan Role A → (A → Plan Role B) → Plan Role B

-- nothing
abbrev pub nothing : {Role : Type 0} → Plan Role ⊤
nothing = done tt

-- a field alone
abbrev pub field : {Role : Type 0} → Role → Plan Role ℕ
field r = ask r (λ at n. done n)

-- a part so many times
abbrev pub repeat : {Role A : Type 0} → Plan Role A → ℕ → Plan Role (List A)
repeat p zero = done []
repeat p (suc k) = then p (λ x. then (repeat p k) (λ xs. done (x ∷ xs)))

-- the numbers of all of a list, one after the other
abbrev pub all_numbers : {W : Type 0} → (W → List ℕ) → List W → List ℕ
all_numbers ns [] = []
all_numbers ns (w ∷ ws) = ns w ++ all_numbers ns ws

-- of what may be absent: its numbers, and whether it fits
abbrev pub numbers_if : {W : Type 0} → (W → List ℕ) → Option W → List ℕ
numbers_if ns None = []
numbers_if ns (Some w) = ns w

abbrev pub fits_if : {W : Type 0} → (W → Bool) → Option W → Bool
fits_if f None = true
fits_if f (Some w) = f w

-- the bounds that the flags name: bit 0 minimum present, bit 1 maximum present, bit 2 minimum negative, bit 3 maximum negative; the minimum comes first
abbrev pub bounds : {Role V : Type 0} → (Bool → Plan Role (Option V)) → ℕ → Plan Role (Bounds V)
bounds bound f =
    then (either (has_bit f 0) (bound (has_bit f 2)) (done None)) (λ low. then (either (has_bit f 1) (bound (has_bit f 3)) (done None)) (λ high. done (record { minimum = low; maximum = high })))

-- the flags, and the bounds that they name
abbrev pub head : {Role V : Type 0} → Role → (Bool → Plan Role (Option V)) → Plan Role (Bounds V)
head flags bound = then (field flags) (λ f. bounds bound f)

module _ {Role : Type 0} (t : Table Role) where
  -- reading: the first field that is not in order gives its refusal
  abbrev pub made_at : {A : Type 0} → Plan Role A → List ℕ → ℕ → Answer A
  made_at (done x) s at = found x at
  made_at (ask r k) s at = next (shape_at (t.shape r) s at) (λ n e. cond (t.fits r n) (made_at (k at n) s e) (refused (at_byte (t.refusal r) (t.named r at))))
  made_at (either b p q) s at = cond b (made_at p s at) (made_at q s at)
  made_at (then p k) s at = next (made_at p s at) (λ x e. made_at (k x) s e)

  module _ (s : List ℕ) where
    -- n stands in the field r from a byte on, and may
    pub record InOrder (r : Role) (at n size : ℕ) : Type 0 where
      pub stands : Stands (t.shape r) (drop at s) n size
      pub fits : t.fits r n ≡ true

    -- all fields due from a byte on are in order, and make x, up to another byte
    abbrev pub Makes : {A : Type 0} → Plan Role A → ℕ → A → ℕ → Type 0
    Makes (done y) at x end = (y ≡ x) × (at ≡ end)
    Makes (ask r k) at x end = (n : ℕ) × (size : ℕ) × InOrder r at n size × Makes (k at n) (at + size) x end
    Makes (either b p q) at x end = (b ≡ true) × Makes p at x end ⊎ (b ≡ false) × Makes q at x end
    Makes (then {A = A} p k) at x end = (y : A) × (mid : ℕ) × Makes p at y mid × Makes (k y) mid x end

    -- all fields due from a byte on are in order up to the field q, which is due at the byte p
    abbrev pub Reached : {A : Type 0} → Plan Role A → ℕ → Role → ℕ → Type 0
    Reached (done y) at q p = ⊥
    Reached (ask r k) at q p = (r ≡ q) × (at ≡ p) ⊎ ((n : ℕ) × (size : ℕ) × InOrder r at n size × Reached (k at n) (at + size) q p)
    Reached (either b l r) at q p = (b ≡ true) × Reached l at q p ⊎ (b ≡ false) × Reached r at q p
    Reached (then {A = A} l k) at q p = Reached l at q p ⊎ ((y : A) × (mid : ℕ) × Makes l at y mid × Reached (k y) mid q p)

    module _ {A : Type 0} (plan : Plan Role A) (at : ℕ) where
      -- the first field that is not in order: the sheet ends in it,
      abbrev pub EndsEarly : Type 0
      EndsEarly = (q : Role) × (p : ℕ) × Reached plan at q p × Ends (t.shape q) (drop p s)

      -- what stands there is no number,
      abbrev pub BadNumber : ℕ → Type 0
      BadNumber p = (q : Role) × Reached plan at q p × Misspelt (t.shape q) (drop p s)

      -- or what stands there does not fit
      pub record Unfit (refusal named : ℕ) : Type 0 where
        pub field : Role
        pub place : ℕ
        pub value : ℕ
        pub size : ℕ
        pub reached : Reached plan at field place
        pub stands : Stands (t.shape field) (drop place s) value size
        pub unfit : t.fits field value ≡ false
        pub refusal_is : refusal ≡ t.refusal field
        pub named_is : named ≡ t.named field place

      -- all is in order up to the field q, which is due at p, and there the number n stands
      pub record NumberDue (q : Role) (p n : ℕ) : Type 0 where
        pub reached : Reached plan at q p
        pub size : ℕ
        pub stands : Written (drop p s) n size

      -- in one of the fields r, all before it being in order, stands a number that the field's test refuses; p is the byte that this names
      abbrev pub UnfitIn : {I : Type 0} → (I → Role) → (I → ℕ → Bool) → ℕ → Type 0
      UnfitIn {I} r test p = (i : I) × (place : ℕ) × (n : ℕ) × (p ≡ t.named (r i) place) × NumberDue (r i) place n × (test i n ≡ false)

      -- the test of flags refuses the first byte, which is named
      abbrev pub UnfitFlags : (ℕ → Bool) → ℕ → Type 0
      UnfitFlags test p = (p ≡ at) × ((f : ℕ) × (drop at s ≡ f ∷ drop 1 (drop at s)) × (test f ≡ false))
