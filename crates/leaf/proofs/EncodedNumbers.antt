-- What is read as a number stands there as its encoding.
use Rattle.std.proofs.Common.{◌≡◌, ℕ, ◌+◌, ◌-◌, ◌≤◌, ◌⊎◌, List, ◌++◌, length, take, drop, drop-drop, sym, ap, ◌∙◌, subst, inl, inr, arith}
use Rattle.std.proofs.lemmas.List.{take-append-drop, length-drop}
use Rattle.faults.specs.Faults.{found}
use Rattle.leaf.specs.Encoding.{Bytes, CutShort, IsEncoded, Overlong, Written, encode}
use Rattle.leaf.specs.Numbers.{groups_of, judged}
use Rattle.leaf.specs.Laws.Encodes.{one_to_one}
use Rattle.leaf.specs.Laws.Writing.{bars_it, cuts_it, finds_it, found_refused, one_of}

pub encoded_as : (bs : List ℕ) (end start n size : ℕ) → Bytes bs → found n (start + size) ≡ judged end start (groups_of 10 bs) → take size bs ≡ encode n
encoded_as bs end start n size b e = by (one_of bs)
  where
    by : ((m : ℕ) × (k : ℕ) × Written bs m k) ⊎ CutShort bs ⊎ Overlong bs → take size bs ≡ encode n
    by (inl (m, k, w)) =
        let q : found n (start + size) ≡ found m (start + k) = e ∙ finds_it end start bs m k w in
        let i : n ≡ m = cc in
        let j : start + size ≡ start + k = cc in
        let z : size ≡ k = omega arith in
        ap (λ x. take x bs) z ∙ ((one_to_one.back bs m k b w).0 ∙ ap encode (sym i))
    by (inr (inl c)) = absurd (found_refused (e ∙ cuts_it end start bs c))
    by (inr (inr c)) = absurd (found_refused (e ∙ bars_it end start bs c))

pub rest_encoded : (bs : List ℕ) (end start n size : ℕ) → Bytes bs → found n (start + size) ≡ judged end start (groups_of 10 bs) → IsEncoded n bs (drop size bs)
unfolding IsEncoded
rest_encoded bs end start n size b e = sym (take-append-drop size bs) ∙ ap (λ xs. xs ++ drop size bs) (encoded_as bs end start n size b e)

-- the same of a reader, by the sheet and what is left of it
pub read_encoded :
    (n : ℕ) (s rest part : List ℕ) (size : ℕ) → rest ≡ drop (length s - length rest) s → size ≤ length rest → part ≡ drop size rest → IsEncoded n rest (drop size rest) →
    IsEncoded n (drop (length s - length rest) s) (drop (length s - length part) s)
read_encoded n s rest part size h z p q =
    let a = ap length h ∙ length-drop (length s - length rest) s in
    let l = ap length p ∙ length-drop size rest in
    let j : length s - length part ≡ (length s - length rest) + size = omega (arith, a, l, z) in
    let m : drop (length s - length part) s ≡ drop size rest = ap (λ i. drop i s) j ∙ (sym (drop-drop size (length s - length rest) s) ∙ ap (drop size) (sym h)) in
    subst (λ x. IsEncoded n x (drop (length s - length part) s)) h (subst (IsEncoded n rest) (sym m) q)
