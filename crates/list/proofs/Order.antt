-- Chains in the order of the values and their two ends.
use Rattle.std.proofs.Common.{◌≡◌, subst, inl, inr}
use Rattle.std.proofs.lemmas.Bool.{cases_Bool, both_ways}
use Rattle.list.proofs.Core.{Ops, Laws, Le, Lt}

module _ {E L : Type 0} (o : Ops E L) (k : Laws o) where
  pub le_refl : (a : E) → Le o a a
  le_refl a = elim (cases_Bool (o.le a a)) [ inl t ↦ t | inr f ↦ k.le_total a a f ]

  pub eq_le : (a b : E) → a ≡ b → Le o a b
  eq_le a b e = subst (Le o a) e (le_refl a)

  pub lt_le : (a b : E) → Lt o a b → Le o a b
  lt_le a b h = k.le_total b a h

  -- a < b ≤ c
  pub lt_le_lt : (a b c : E) → Lt o a b → Le o b c → Lt o a c
  lt_le_lt a b c f h = elim (cases_Bool (o.le c a)) [ inl t ↦ absurd (both_ways (o.le b a) f (k.le_trans b c a h t)) | inr n ↦ n ]

  -- a chain of order that comes back: a < b ≤ a
  pub lt_not_le : (a b : E) → Lt o a b → Le o b a → ⊥
  lt_not_le a b f t = both_ways (o.le b a) f t
