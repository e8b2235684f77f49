-- Each answer about a number comes on its condition and on no other.
use Rattle.std.proofs.Common.{◌≡◌, ℕ, zero, suc, ◌+◌, ◌*◌, ◌%◌, ◌^◌, ◌<◌, ◌≤◌, true, false, eqb, ltb, ◌⊎◌, List, [], ◌∷◌, ◌++◌, length, take, drop, sym, refl, ap, ◌∙◌, subst, inl, inr, ⊎_elim, arith}
use native.Mathlib.Numerals.{unary_clauses}
use Rattle.std.proofs.lemmas.Bool.{cond_both, cond-true, cond-false, cases_lt, ltb-true, ltb-false, lt-ltb, le-ltb, eq-eqb, ne_eqb, cases_eq}
use Rattle.faults.specs.Faults.{Answer, Refused, at_byte, found, refused}
use Rattle.leaf.specs.Numbers.{Groups, short, long, whole, behind, groups_of, proper, judged, number_at}
use Rattle.leaf.specs.Encoding.{Follow, value, Spelt, Written, CutShort, Overlong, Numbers, OneOfThree}

-- what is said of k groups at most
abbrev pub Told : ℕ → List ℕ → Groups → Type 0
Told k bs short = Follow bs × (length bs < k)
Told k bs long = Follow (take k bs) × (k ≤ length bs)
Told k bs (whole v l n) = (w : Spelt bs) × (w.last ≡ l) × (v ≡ value w.front l) × (n ≡ length w.front + 1) × (n ≤ k)

told_before : (k b : ℕ) (bs : List ℕ) (g : Groups) → 128 ≤ b → Told k bs g → Told (suc k) (b ∷ bs) (behind b g)
told_before k b bs short h t = ((h, t.0), omega arith)
told_before k b bs long h t = ((h, t.0), omega arith)
told_before k b bs (whole v l n) h (w, a, d, e, f) =
    (record { front = b ∷ w.front; last = w.last; rest = w.rest; bytes_are = ap (λ xs. b ∷ xs) w.bytes_are; follow = (h, w.follow); ends = w.ends }, a, ap (λ x. b % 128 + 128 * x) d, omega arith, omega arith)

pub told : (k : ℕ) (bs : List ℕ) → Told k bs (groups_of k bs)
told zero bs = (tt, omega arith)
told (suc k) [] = (tt, omega arith)
told (suc k) (b ∷ bs) =
    cond_both (ltb b 128) (whole b b 1) (behind b (groups_of k bs)) (Told (suc k) (b ∷ bs))
    (λ e. (record { front = []; last = b; rest = bs; bytes_are = refl; follow = tt; ends = ltb-true b 128 e }, refl, refl, refl, omega arith))
    (λ e. told_before k b bs (groups_of k bs) (ltb-false b 128 e) (told k bs))

-- and each comes out so
pub of_short : (k : ℕ) (bs : List ℕ) → Follow bs → length bs < k → groups_of k bs ≡ short
of_short zero bs f h = absurd (omega arith)
of_short (suc k) [] f h = refl
of_short (suc k) (b ∷ bs) f h = cond-false (ltb b 128) _ _ (le-ltb b 128 f.0) ∙ ap (behind b) (of_short k bs f.1 (omega arith))

pub of_long : (k : ℕ) (bs : List ℕ) → Follow (take k bs) → k ≤ length bs → groups_of k bs ≡ long
of_long zero bs f h = refl
of_long (suc k) [] f h = absurd (omega arith)
of_long (suc k) (b ∷ bs) f h = cond-false (ltb b 128) _ _ (le-ltb b 128 f.0) ∙ ap (behind b) (of_long k bs f.1 (omega arith))

pub of_whole : (k : ℕ) (front : List ℕ) (l : ℕ) (rest : List ℕ) → Follow front → l < 128 → length front < k → groups_of k (front ++ l ∷ rest) ≡ whole (value front l) l (length front + 1)
of_whole zero front l rest f e h = absurd (omega arith)
of_whole (suc k) [] l rest f e h = cond-true (ltb l 128) _ _ (lt-ltb l 128 e)
of_whole (suc k) (b ∷ bs) l rest f e h = cond-false (ltb b 128) _ _ (le-ltb b 128 f.0) ∙ (ap (behind b) (of_whole k bs l rest f.1 e (omega arith)) ∙ ap (whole (value (b ∷ bs) l) l) (omega arith))

-- k groups behind a last one that is not 0 make at least 128 ^ k
pub large : (k : ℕ) (front : List ℕ) (l : ℕ) → 0 < l → k ≤ length front → 128 ^ k ≤ value front l
large zero [] l p h = omega arith
large zero (b ∷ bs) l p h = let q = large zero bs l p (omega arith) in omega arith
large (suc k) [] l p h = absurd (omega arith)
large (suc k) (b ∷ bs) l p h = let q = large k bs l p (omega arith) in simp unary_clauses (omega arith)

-- a proper number has ten groups at most
pub ten : (front : List ℕ) (l : ℕ) → (l ≡ 0 → front ≡ []) → value front l < 2 ^ 64 → length front < 10
ten front zero s h = let e = ap length (s refl) in omega arith
ten front (suc l) s h =
    ⊎_elim (λ p. p) (λ p. let q : 2 ^ 70 ≤ value front (suc l) = large 10 front (suc l) (omega arith) p in absurd (omega arith)) (cases_lt (length front) 10)

proper_is : (v l n : ℕ) → v < 2 ^ 64 → (l ≡ 0 → n ≡ 1) → proper v l n ≡ true
proper_is v zero n h s = cond-true (ltb v (2 ^ 64)) _ _ (lt-ltb v (2 ^ 64) h) ∙ eq-eqb n 1 (s refl)
proper_is v (suc l) n h s = cond-true (ltb v (2 ^ 64)) _ _ (lt-ltb v (2 ^ 64) h) ∙ cond-false (eqb (suc l) 0) _ _ (ne_eqb (suc l) 0 (λ e. absurd (omega arith)))

proper_not : (v l n : ℕ) → ((l ≡ 0) × (1 < n)) ⊎ (2 ^ 64 ≤ v) → proper v l n ≡ false
proper_not v l n (inr h) = cond-false (ltb v (2 ^ 64)) _ _ (le-ltb v (2 ^ 64) h)
proper_not v l n (inl h) = grind arith

module _ (end start : ℕ) where
  pub finds_it : (bs : List ℕ) (n size : ℕ) → Written bs n size → judged end start (groups_of 10 bs) ≡ found n (start + size)
  finds_it bs n size (w, s, v, z) =
      let g : groups_of 10 bs ≡ whole (value w.front w.last) w.last (length w.front + 1) = ap (groups_of 10) w.bytes_are ∙ of_whole 10 w.front w.last w.rest w.follow w.ends (ten w.front w.last s.0 s.1) in
      let l = proper_is (value w.front w.last) w.last (length w.front + 1) s.1 (λ e. let q = ap length (s.0 e) in omega arith) in
      ap (judged end start) g ∙ (cond-true (proper (value w.front w.last) w.last (length w.front + 1)) _ _ l ∙ cc)

  pub cuts_it : (bs : List ℕ) → CutShort bs → judged end start (groups_of 10 bs) ≡ refused (at_byte 2 end)
  cuts_it bs c = ap (judged end start) (of_short 10 bs c.0 c.1)

  pub bars_it : (bs : List ℕ) → Overlong bs → judged end start (groups_of 10 bs) ≡ refused (at_byte 3 start)
  bars_it bs (inr c) = ap (judged end start) (of_long 10 bs c.0 c.1)
  bars_it bs (inl (w, t, i)) =
      let g : groups_of 10 bs ≡ whole (value w.front w.last) w.last (length w.front + 1) = ap (groups_of 10) w.bytes_are ∙ of_whole 10 w.front w.last w.rest w.follow w.ends t in
      let l = proper_not (value w.front w.last) w.last (length w.front + 1) (⊎_elim (λ p. inl (p.0, omega arith)) inr i) in
      ap (judged end start) g ∙ cond-false (proper (value w.front w.last) w.last (length w.front + 1)) _ _ l

nil_of : (xs : List ℕ) → length xs ≡ 0 → xs ≡ []
nil_of [] h = refl
nil_of (x ∷ xs) h = absurd (omega arith)

-- of any bytes one of the three holds
proper_or : (bs : List ℕ) (w : Spelt bs) → length w.front < 10 → ((n : ℕ) × (size : ℕ) × Written bs n size) ⊎ CutShort bs ⊎ Overlong bs
proper_or bs w t =
    ⊎_elim
    (λ small. ⊎_elim
    (λ z. ⊎_elim
    (λ e. inl (value w.front w.last, length w.front + 1, (w, ((λ _. nil_of w.front e), small), refl, refl)))
    (λ e. inr (inr (inl (w, t, inl (z, omega arith)))))
    (cases_eq (length w.front) 0))
    (λ z. inl (value w.front w.last, length w.front + 1, (w, ((λ e. absurd (z e)), small), refl, refl)))
    (cases_eq w.last 0))
    (λ large. inr (inr (inl (w, t, inr large))))
    (cases_lt (value w.front w.last) (2 ^ 64))

one_by : (bs : List ℕ) (g : Groups) → Told 10 bs g → ((n : ℕ) × (size : ℕ) × Written bs n size) ⊎ CutShort bs ⊎ Overlong bs
one_by bs short t = inr (inl t)
one_by bs long t = inr (inr (inr t))
one_by bs (whole v l n) (w, a, d, e, f) = proper_or bs w (omega arith)

pub one_of : (bs : List ℕ) → ((n : ℕ) × (size : ℕ) × Written bs n size) ⊎ CutShort bs ⊎ Overlong bs
one_of bs = one_by bs (groups_of 10 bs) (told 10 bs)

pub found_refused : {A : Type 0} {x : A} {e : ℕ} {r : Refused} → found x e ≡ refused r → ⊥
found_refused h = let q : ◌≡◌ {A = ℕ} 0 1 = cc in absurd (omega (arith, q))

pub two_three : {b c : ℕ} → ◌≡◌ {A = Answer ℕ} (refused (at_byte 2 b)) (refused (at_byte 3 c)) → ⊥
two_three {b} {c} h = let q : ◌≡◌ {A = Refused} (at_byte 2 b) (at_byte 3 c) = cc in absurd (omega (arith, ap (λ (r : Refused). r.number) q))

module _ (sheet : List ℕ) (start : ℕ) where
  abbrev tail : List ℕ
  tail = drop start sheet

  reads_by : (n size : ℕ) → ((m : ℕ) × (length : ℕ) × Written tail m length) ⊎ CutShort tail ⊎ Overlong tail → number_at sheet start ≡ found n (start + size) → Written tail n size
  unfolding number_at
  reads_by n size (inl (m, z, w)) e =
      let q : found n (start + size) ≡ found m (start + z) = sym e ∙ finds_it (length sheet) start tail m z w in
      let a : n ≡ m = cc in
      let b : start + size ≡ start + z = cc in
      let c : size ≡ z = omega arith in
      subst (λ k. Written tail k size) (sym a) (subst (Written tail m) (sym c) w)
  reads_by n size (inr (inl c)) e = absurd (found_refused (sym e ∙ cuts_it (length sheet) start tail c))
  reads_by n size (inr (inr c)) e = absurd (found_refused (sym e ∙ bars_it (length sheet) start tail c))

  cuts_by : ((m : ℕ) × (length : ℕ) × Written tail m length) ⊎ CutShort tail ⊎ Overlong tail → number_at sheet start ≡ refused (at_byte 2 (length sheet)) → CutShort tail
  unfolding number_at
  cuts_by (inl (m, z, w)) e = absurd (found_refused (sym (finds_it (length sheet) start tail m z w) ∙ e))
  cuts_by (inr (inl c)) e = c
  cuts_by (inr (inr c)) e = absurd (two_three (sym e ∙ bars_it (length sheet) start tail c))

  bars_by : ((m : ℕ) × (length : ℕ) × Written tail m length) ⊎ CutShort tail ⊎ Overlong tail → number_at sheet start ≡ refused (at_byte 3 start) → Overlong tail
  unfolding number_at
  bars_by (inl (m, z, w)) e = absurd (found_refused (sym (finds_it (length sheet) start tail m z w) ∙ e))
  bars_by (inr (inl c)) e = absurd (two_three (sym (cuts_it (length sheet) start tail c) ∙ e))
  bars_by (inr (inr c)) e = c

pub numbers : Numbers
unfolding number_at
numbers s at = record {
  read = λ n size. (reads_by s at n size (one_of (drop at s)), finds_it (length s) at (drop at s) n size);
  two = (cuts_by s at (one_of (drop at s)), cuts_it (length s) at (drop at s));
  three = (bars_by s at (one_of (drop at s)), bars_it (length s) at (drop at s));
}

pub one_of_three : (bs : List ℕ) → OneOfThree bs
one_of_three bs = (
  one_of bs,
  (λ c o. two_three (sym (cuts_it 0 0 bs c) ∙ bars_it 0 0 bs o)),
  (λ n size w. ((λ c. found_refused (sym (finds_it 0 0 bs n size w) ∙ cuts_it 0 0 bs c)), (λ o. found_refused (sym (finds_it 0 0 bs n size w) ∙ bars_it 0 0 bs o)))),
  (λ n m size z w x. let q : found n (0 + size) ≡ found m (0 + z) = sym (finds_it 0 0 bs n size w) ∙ finds_it 0 0 bs m z x in let b : 0 + size ≡ 0 + z = cc in (cc, omega arith)),
)
