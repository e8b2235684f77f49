-- What a minimum and a maximum ask of a number.
use Rattle.std.proofs.Common.{◌≡◌, ℕ, ◌≤◌, Some, None, Decides, Option, nat_le, refl, subst, arith}
use Rattle.std.proofs.lemmas.Bool.{le-leb, leb-true}
use Rattle.leaf.specs.Kind.Ext.{value}
use Rattle.leaf.specs.Kind.{ext_le, from, upto}

pub nat_low : (l : Option ℕ) (v : ℕ) → Decides (ext_le nat_le (from l) (value v)) ((x : ℕ) → l ≡ Some x → x ≤ v)
nat_low None v = (λ _ x e. let z : ◌≡◌ {A = ℕ} 0 1 = cc in absurd (omega arith), λ _. refl)
nat_low (Some u) v = (λ h x e. let k : u ≡ x = cc in subst (λ (y : ℕ). y ≤ v) k (leb-true u v h), λ f. le-leb u v (f u refl))

pub nat_high : (h : Option ℕ) (v : ℕ) → Decides (ext_le nat_le (value v) (upto h)) ((y : ℕ) → h ≡ Some y → v ≤ y)
nat_high None v = (λ _ x e. let z : ◌≡◌ {A = ℕ} 0 1 = cc in absurd (omega arith), λ _. refl)
nat_high (Some u) v = (λ h x e. let k : u ≡ x = cc in subst (λ (y : ℕ). v ≤ y) k (leb-true v u h), λ f. le-leb v u (f u refl))
