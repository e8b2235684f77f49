-- Fractions by size: whole parts first, then the remainders, turned over.
use Rattle.std.proofs.Common.{◌≡◌, ℕ, suc, ◌+◌, ◌*◌, ◌/◌, ◌%◌, ◌<◌, ◌≤◌, Ordering, Less, Equal, Greater, refl, sym, ap, ◌∙◌, mul-le-mul_right, mod-lt, mul_assoc, suc-mul, mul_comm, add-mul, mul-lt-mul_of_pos_right, div-add-mod', arith}
use Rattle.std.specs.Ordering.{MatchOrdering}

parts : (p q s : ℕ) → p * s ≡ p / q * (q * s) + (p % q) * s
parts p q s = ap (λ (x : ℕ). x * s) (sym (div-add-mod' p q)) ∙ add-mul (p / q * q) (p % q) s ∙ ap (λ (x : ℕ). x + (p % q) * s) (mul_assoc (p / q) q s)

less : (p q r s : ℕ) → 0 < q → 0 < s → p / q < r / s → p * s < r * q
less p q r s hq hs h =
    let left = parts p q s in
    let right = parts r s q in
    let turn : s * q ≡ q * s = mul_comm s q in
    let part : (p % q) * s < q * s = mul-lt-mul_of_pos_right (mod-lt p hq) hs in
    let row : suc (p / q) * (q * s) ≤ r / s * (q * s) = mul-le-mul_right (q * s) h in
    let one : suc (p / q) * (q * s) ≡ p / q * (q * s) + q * s = suc-mul (p / q) (q * s) in
    let same : r / s * (s * q) ≡ r / s * (q * s) = ap (λ (x : ℕ). r / s * x) turn in
    omega arith

-- with equal whole parts, the remainders decide
rests : (p q r s : ℕ) → p / q ≡ r / s → (n : ℕ) × (p * s ≡ n + (p % q) * s) × (r * q ≡ n + (r % s) * q)
rests p q r s e = (
  p / q * (q * s),
  parts p q s,
  parts r s q ∙ ap (λ (x : ℕ). x + (r % s) * q) (ap (λ (x : ℕ). r / s * x) (mul_comm s q) ∙ ap (λ (x : ℕ). x * (q * s)) (sym e)),
)

pub turned :
    (p q r s : ℕ) → p / q ≡ r / s → (o : Ordering) →
    MatchOrdering o (s * (p % q) < q * (r % s)) (s * (p % q) ≡ q * (r % s)) (q * (r % s) < s * (p % q)) →
    MatchOrdering o (p * s < r * q) (p * s ≡ r * q) (r * q < p * s)
turned p q r s e o =
    let t = rests p q r s e in
    let u : s * (p % q) ≡ (p % q) * s = mul_comm s (p % q) in
    let v : q * (r % s) ≡ (r % s) * q = mul_comm q (r % s) in
    elim o as (λ k. MatchOrdering k (s * (p % q) < q * (r % s)) (s * (p % q) ≡ q * (r % s)) (q * (r % s) < s * (p % q)) → MatchOrdering k (p * s < r * q) (p * s ≡ r * q) (r * q < p * s)) [
      | Less ↦ λ h. omega (arith, t.1, t.2)
      | Equal ↦ λ h. omega (arith, t.1, t.2)
      | Greater ↦ λ h. omega (arith, t.1, t.2)
    ]

-- whole parts that differ decide
pub unturned :
    (p q r s : ℕ) → 0 < q → 0 < s → (o : Ordering) → MatchOrdering o (p / q < r / s) (p / q ≡ r / s) (r / s < p / q) → (o ≡ Equal → ⊥) →
    MatchOrdering o (p * s < r * q) (p * s ≡ r * q) (r * q < p * s)
unturned p q r s hq hs o =
    elim o as (λ k. MatchOrdering k (p / q < r / s) (p / q ≡ r / s) (r / s < p / q) → (k ≡ Equal → ⊥) → MatchOrdering k (p * s < r * q) (p * s ≡ r * q) (r * q < p * s)) [
      | Less ↦ λ h _. less p q r s hq hs h
      | Equal ↦ λ _ n. absurd (n refl)
      | Greater ↦ λ h _. less r s p q hs hq h
    ]

-- with like parts below, those above decide
pub liked :
    (p q r s : ℕ) → 0 < q → q ≡ s → (o : Ordering) → MatchOrdering o (p < r) (p ≡ r) (r < p) →
    MatchOrdering o (p * s < r * q) (p * s ≡ r * q) (r * q < p * s)
liked p q r s hq e o =
    let u : p * s ≡ p * q = ap (λ (x : ℕ). p * x) (sym e) in
    elim o as (λ k. MatchOrdering k (p < r) (p ≡ r) (r < p) → MatchOrdering k (p * s < r * q) (p * s ≡ r * q) (r * q < p * s)) [
      | Less ↦ λ h. let l : p * q < r * q = mul-lt-mul_of_pos_right h hq in omega (arith, u, l)
      | Equal ↦ λ h. u ∙ ap (λ (x : ℕ). x * q) h
      | Greater ↦ λ h. let l : r * q < p * q = mul-lt-mul_of_pos_right h hq in omega (arith, u, l)
    ]
