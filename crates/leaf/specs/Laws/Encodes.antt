-- Encoding and reading are inverse to each other.
use Rattle.std.proofs.Common.{◌≡◌, ℕ, zero, suc, ◌+◌, ◌*◌, ◌/◌, ◌%◌, ◌^◌, ◌<◌, ◌≤◌, ltb, List, [], ◌∷◌, ◌++◌, length, take, sym, refl, ap, ◌∙◌, subst, arith}
use native.Mathlib.Numerals.{unary_clauses}
use Rattle.std.proofs.lemmas.Bool.{cond_both, cond-true, cond-false, ltb-true, ltb-false, lt-ltb, le-ltb}
use Rattle.std.proofs.lemmas.List.{append_assoc, length-append}
use Rattle.leaf.specs.Encoding.{Follow, value, Written, encoded, encode, Bytes, OneToOne}
use Rattle.leaf.specs.Laws.Writing.{ten}

-- a row of groups with the value n, in its shortest form
pub record Shaped (n : ℕ) (bytes : List ℕ) : Type 0 where
  pub front : List ℕ
  pub last : ℕ
  pub bytes_are : bytes ≡ front ++ last ∷ []
  pub follow : Follow front
  pub ends : last < 128
  pub short : last ≡ 0 → (front ≡ []) × (n ≡ 0)
  pub value_is : n ≡ value front last

alone : (n : ℕ) → n < 128 → Shaped n (n ∷ [])
alone n h = record { front = []; last = n; bytes_are = refl; follow = tt; ends = h; short = λ e. (refl, e); value_is = refl }

shaped : (k n : ℕ) → n < 128 ^ (k + 1) → Shaped n (encoded k n)
shaped zero n h = alone n (omega arith)
shaped (suc k) n h =
    cond_both (ltb n 128) (n ∷ []) ((128 + n % 128) ∷ encoded k (n / 128)) (Shaped n)
    (λ e. alone n (ltb-true n 128 e))
    (λ e.
    let g : 128 ≤ n = ltb-false n 128 e in
    let p : 128 ^ (suc k + 1) ≡ 128 * 128 ^ (k + 1) = simp unary_clauses (omega arith) in
    let w = shaped k (n / 128) (omega arith) in
    record {
      front = (128 + n % 128) ∷ w.front;
      last = w.last;
      bytes_are = ap (λ xs. (128 + n % 128) ∷ xs) w.bytes_are;
      follow = (omega arith, w.follow);
      ends = w.ends;
      short = λ z. let q = (w.short z).1 in absurd (omega arith);
      value_is = let q = w.value_is in omega arith;
    })

one_end : (front : List ℕ) (l : ℕ) (rest : List ℕ) → (front ++ l ∷ []) ++ rest ≡ front ++ l ∷ rest
one_end front l rest = append_assoc front (l ∷ []) rest

there_by : (n : ℕ) (bs rest : List ℕ) → n < 2 ^ 64 → Shaped n bs → Written (bs ++ rest) n (length bs)
there_by n bs rest h w = (
  record { front = w.front; last = w.last; rest = rest; bytes_are = ap (λ xs. xs ++ rest) w.bytes_are ∙ one_end w.front w.last rest; follow = w.follow; ends = w.ends },
  ((λ e. (w.short e).0), subst (λ x. x < 2 ^ 64) w.value_is h),
  w.value_is,
  ap length w.bytes_are ∙ length-append w.front (w.last ∷ []),
)

pub positive : (front : List ℕ) (l : ℕ) → 0 < l → 0 < value front l
positive [] l h = h
positive (b ∷ bs) l h = let q = positive bs l h in omega arith

back_by : (k : ℕ) (front : List ℕ) (l : ℕ) → length front ≤ k → Follow front → Bytes front → l < 128 → (l ≡ 0 → front ≡ []) → encoded k (value front l) ≡ front ++ l ∷ []
back_by zero [] l h f b e s = refl
back_by zero (x ∷ xs) l h f b e s = absurd (omega arith)
back_by (suc k) [] l h f b e s = cond-true (ltb l 128) _ _ (lt-ltb l 128 e)
back_by (suc k) (x ∷ xs) zero h f b e s = absurd (let q = ap length (s refl) in omega arith)
back_by (suc k) (x ∷ xs) (suc l) h f b e s =
    let v = value xs (suc l) in
    let p = positive xs (suc l) (omega arith) in
    let n = x % 128 + 128 * v in
    let d : n / 128 ≡ v = omega arith in
    let m : 128 + n % 128 ≡ x = let u = f.0 in let y = b.0 in omega arith in
    let r = back_by k xs (suc l) (omega arith) f.1 b.1 e (λ z. absurd (omega arith)) in
    cond-false (ltb n 128) _ _ (le-ltb n 128 (omega arith)) ∙ (ap (λ y. y ∷ encoded k (n / 128)) m ∙ ap (λ ys. x ∷ ys) (ap (encoded k) d ∙ r))

bytes_front : (xs ys : List ℕ) → Bytes (xs ++ ys) → Bytes xs
bytes_front [] ys h = tt
bytes_front (x ∷ xs) ys h = (h.0, bytes_front xs ys h.1)

take_front : (front : List ℕ) (l : ℕ) (rest : List ℕ) → take (length front + 1) (front ++ l ∷ rest) ≡ front ++ l ∷ []
take_front [] l rest = refl
take_front (x ∷ xs) l rest = (let e : length (x ∷ xs) + 1 ≡ suc (length xs + 1) = omega arith in ap (λ k. take k (x ∷ xs ++ l ∷ rest)) e) ∙ ap (λ ys. x ∷ ys) (take_front xs l rest)

pub one_to_one : OneToOne
one_to_one = record {
  there = λ n rest h. there_by n (encode n) rest h (shaped 9 n (omega arith));
  back = λ bytes n size b w. back_of bytes n size b w;
}
  where
    back_of : (bytes : List ℕ) (n size : ℕ) → Bytes bytes → Written bytes n size → (take size bytes ≡ encode n) × (n < 2 ^ 64)
    back_of bytes n size b (w, s, v, z) =
        let f = bytes_front w.front (w.last ∷ w.rest) (subst Bytes w.bytes_are b) in
        let t = ten w.front w.last s.0 s.1 in
        let r = back_by 9 w.front w.last (omega arith) w.follow f w.ends s.0 in
        (ap (λ k. take k bytes) z ∙ (ap (take (length w.front + 1)) w.bytes_are ∙ (take_front w.front w.last w.rest ∙ (sym r ∙ ap encode (sym v)))), subst (λ x. x < 2 ^ 64) (sym v) s.1)
