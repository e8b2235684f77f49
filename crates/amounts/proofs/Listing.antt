-- One divisor on in a list on a sheet.
use Rattle.std.proofs.Common.{◌≡◌, ℕ, suc, ◌+◌, ◌-◌, ◌<◌, ◌≤◌, cond, leb, ltb, List, [], ◌∷◌, ◌++◌, Some, None, Ok, Err, OnOk, Result, sym, refl, ap, ◌∙◌, arith, le-leb, lt-ltb}
use Rattle.faults.specs.Faults.{Answer, Refused, found, at_byte, next, refused, refused_with, shown, unplaced}
use Rattle.faults.specs.declared.fault.Fault.{Fault}
use Rattle.leaf.specs.Numbers.{number_at}
use Rattle.std.proofs.lemmas.Bool.{cond-true}
use Rattle.std.proofs.lemmas.List.{append_assoc, append-nil}
use Rattle.leaf.specs.Plans.{repeat, made_at}
use Rattle.amounts.specs.Layout.{amount_table, divisor, list}
use Rattle.divisors.specs.declared.fraction.Fraction.{Fraction}

-- what was read stands before what is read next
abbrev pub after : List Fraction → Answer (List Fraction) → Answer (List Fraction)
after xs a = next a (λ fs e. found (xs ++ fs) e)

after_none : (a : Answer (List Fraction)) → after [] a ≡ a
after_none (found fs e) = refl
after_none (refused r) = refl

one_more : (xs : List Fraction) (f : Fraction) (a : Answer (List Fraction)) → after xs (next a (λ fs e. found (f ∷ fs) e)) ≡ after (xs ++ f ∷ []) a
one_more xs f (found fs e) = ap (λ ys. found ys e) (sym (append_assoc xs (f ∷ []) fs))
one_more xs f (refused r) = refl

unrolled : (n i : ℕ) (s : List ℕ) (at : ℕ) → i < n → made_at amount_table (repeat divisor (n - i)) s at ≡ next (made_at amount_table divisor s at) (λ f e. next (made_at amount_table (repeat divisor (n - (i + 1))) s e) (λ fs end. found (f ∷ fs) end))
unrolled n i s at h = let e : n - i ≡ suc (n - (i + 1)) = omega arith in ap (λ k. made_at amount_table (repeat divisor k) s at) e

pub begins : (s : List ℕ) (at n e : ℕ) (xs : List Fraction) → found n e ≡ number_at s at → n ≤ 6 → xs ≡ [] → after xs (made_at amount_table (repeat divisor (n - 0)) s e) ≡ made_at amount_table list s at
unfolding list
begins s at n e xs q h none =
    let k : n - 0 ≡ n = omega arith in
    ap (λ ys. after ys (made_at amount_table (repeat divisor (n - 0)) s e)) none ∙ (after_none (made_at amount_table (repeat divisor (n - 0)) s e) ∙ (ap (λ m. made_at amount_table (repeat divisor m) s e) k ∙
    sym (ap (λ a. next a (λ m z. cond (leb m 6) (made_at amount_table (repeat divisor m) s z) (refused (at_byte 6 at)))) (sym q) ∙ ap (λ t. cond t (made_at amount_table (repeat divisor n) s e) (refused (at_byte 6 at))) (le-leb n 6 h))))

pub goes_on : (n i : ℕ) (s : List ℕ) (at : ℕ) (f : Fraction) (e : ℕ) (xs ys : List Fraction) → i < n → found f e ≡ made_at amount_table divisor s at → ys ≡ xs ++ f ∷ [] →
    after ys (made_at amount_table (repeat divisor (n - (i + 1))) s e) ≡ after xs (made_at amount_table (repeat divisor (n - i)) s at)
goes_on n i s at f e xs ys h q more =
    ap (λ zs. after zs (made_at amount_table (repeat divisor (n - (i + 1))) s e)) more ∙
    sym (ap (after xs) (unrolled n i s at h ∙ ap (λ a. next a (λ g end. next (made_at amount_table (repeat divisor (n - (i + 1))) s end) (λ fs z. found (g ∷ fs) z))) (sym q)) ∙ one_more xs f (made_at amount_table (repeat divisor (n - (i + 1))) s e))

pub stops : (n i : ℕ) (s : List ℕ) (at : ℕ) (xs : List Fraction) (r : Refused) → i < n → refused r ≡ made_at amount_table divisor s at → refused r ≡ after xs (made_at amount_table (repeat divisor (n - i)) s at)
stops n i s at xs r h q =
    sym (ap (after xs) (unrolled n i s at h ∙ ap (λ a. next a (λ g end. next (made_at amount_table (repeat divisor (n - (i + 1))) s end) (λ fs z. found (g ∷ fs) z))) (sym q)))

pub ends : (n i : ℕ) (s : List ℕ) (at : ℕ) (xs : List Fraction) → n ≤ i → found xs at ≡ after xs (made_at amount_table (repeat divisor (n - i)) s at)
ends n i s at xs h = let e : n - i ≡ 0 = omega arith in sym (ap (λ k. after xs (made_at amount_table (repeat divisor k) s at)) e ∙ ap (λ ys. found ys at) (append-nil xs))

-- a row that holds fewer than six takes one more
pub taken : {A P : Type 0} (r : Result A Fault) (n : ℕ) → refused_with r ≡ cond (ltb n 6) None (Some (unplaced 6)) → n < 6 → OnOk r P → P
taken (Ok x) n q h p = p
taken (Err f) n q h p =
    let z : Some (shown f) ≡ None = q ∙ cond-true (ltb n 6) None (Some (unplaced 6)) (lt-ltb n 6 h) in absurd (let k : ◌≡◌ {A = ℕ} 0 1 = cc in omega arith)
