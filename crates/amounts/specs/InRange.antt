-- An amount as written is in range.
use Rattle.std.specs.Prelude.{◌≡◌, ℕ, zero, suc, ◌^◌, Bool, true, false, cond, ℤ, pos, neg_ℤ, Some, None, ◌==◌, ◌≢◌, nat_le, nat_lt, refl}
use Rattle.std.proofs.Common.{subst, arith}
use Rattle.std.proofs.lemmas.Bool.{cond_both, eqb-false, leb-true, lt-ltb}
use Rattle.amounts.specs.Values.{amount_of, is_amount}

pub none_some : {A : Type 0} {B : Type 0} {x : A} → None ≡ Some x → B
none_some e = absurd (let z : ◌≡◌ {A = ℕ} 0 1 = cc in omega arith)

below : (m : ℕ) → (m ≢ 0) → nat_le m (2 ^ 63) ≡ true → is_amount (neg_ℤ (pos m)) ≡ true
below zero n h = absurd (n refl)
below (suc m) n h = let l = leb-true (suc m) (2 ^ 63) h in lt-ltb m (2 ^ 63) (omega arith)

pub amount_is : (negative : Bool) (m : ℕ) (z : ℤ) → amount_of negative m ≡ Some z → is_amount z ≡ true
amount_is false m z =
    cond_both (nat_lt m (2 ^ 63)) (Some (pos m)) None (λ o. o ≡ Some z → is_amount z ≡ true)
    (λ t e. subst (λ (x : ℤ). is_amount x ≡ true) (let k : pos m ≡ z = cc in k) t) (λ _ e. none_some e)
amount_is true m z =
    cond_both (m == 0) None (cond (nat_le m (2 ^ 63)) (Some (neg_ℤ (pos m))) None) (λ o. o ≡ Some z → is_amount z ≡ true) (λ _ e. none_some e)
    (λ n.
    cond_both (nat_le m (2 ^ 63)) (Some (neg_ℤ (pos m))) None (λ o. o ≡ Some z → is_amount z ≡ true)
    (λ t e. subst (λ (x : ℤ). is_amount x ≡ true) (let k : neg_ℤ (pos m) ≡ z = cc in k) (below m (eqb-false m 0 n) t)) (λ _ e. none_some e))
