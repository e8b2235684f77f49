-- Refusal 2 is for bytes that more bytes could make a number of, 3 for those that none can; the shortest form is the shortest.
use Rattle.std.proofs.Common.{◌≡◌, ℕ, zero, suc, ◌+◌, ◌*◌, ◌^◌, ◌<◌, ◌≤◌, ◌⊎◌, List, [], ◌∷◌, ◌++◌, length, take, sym, refl, ap, ◌∙◌, subst, inl, inr, arith}
use native.Mathlib.Numerals.{unary_clauses}
use Rattle.std.proofs.lemmas.List.{append_assoc, length-append, append-nil}
use Rattle.leaf.specs.Encoding.{Follow, value, Written, CutShort, Overlong, Beginning, Told, Shortest, NumbersStand}
use Rattle.leaf.specs.Laws.Writing.{numbers, one_of, one_of_three}
use Rattle.leaf.specs.Laws.Encodes.{one_to_one, positive}

small : (k : ℕ) (front : List ℕ) → length front ≤ k → value front 1 < 2 * 128 ^ k
small zero [] h = omega arith
small zero (b ∷ bs) h = absurd (omega arith)
small (suc k) [] h = let q = small k [] (omega arith) in simp unary_clauses (omega arith)
small (suc k) (b ∷ bs) h = let q = small k bs (omega arith) in simp unary_clauses (omega arith)

begins : (bs : List ℕ) → CutShort bs → Beginning bs
begins bs c =
    let q : value bs 1 < 2 * 128 ^ 9 = small 9 bs (let u = c.1 in omega arith) in
    (1 ∷ [], value bs 1, length bs + 1, (record { front = bs; last = 1; rest = []; bytes_are = refl; follow = c.0; ends = omega arith }, ((λ z. absurd (omega arith)), omega arith), refl, refl))

take_on : (k : ℕ) (bs more : List ℕ) → k ≤ length bs → take k (bs ++ more) ≡ take k bs
take_on zero bs more h = refl
take_on (suc k) [] more h = absurd (omega arith)
take_on (suc k) (b ∷ bs) more h = ap (λ xs. b ∷ xs) (take_on k bs more (omega arith))

stays : (bs more : List ℕ) → Overlong bs → Overlong (bs ++ more)
stays bs more (inl (w, t, i)) = inl (record { front = w.front; last = w.last; rest = w.rest ++ more; bytes_are = ap (λ xs. xs ++ more) w.bytes_are ∙ append_assoc w.front (w.last ∷ w.rest) more; follow = w.follow; ends = w.ends }, t, i)
stays bs more (inr c) = inr (subst Follow (sym (take_on 10 bs more c.1)) c.0, (let e = length-append bs more in let u = c.1 in omega arith))

never : (bs : List ℕ) → Overlong bs → Beginning bs → ⊥
never bs o (more, n, size, w) = ((one_of_three (bs ++ more)).2 n size w).1 (stays bs more o)

written_begins : (bs : List ℕ) (n size : ℕ) → Written bs n size → Beginning bs
written_begins bs n size w = ([], n, size, subst (λ xs. Written xs n size) (sym (append-nil bs)) w)

two_by : (bs : List ℕ) → ((n : ℕ) × (size : ℕ) × Written bs n size) ⊎ CutShort bs ⊎ Overlong bs → Beginning bs × ((n size : ℕ) → Written bs n size → ⊥) → CutShort bs
two_by bs (inl (n, size, w)) h = absurd (h.1 n size w)
two_by bs (inr (inl c)) h = c
two_by bs (inr (inr o)) h = absurd (never bs o h.0)

three_by : (bs : List ℕ) → ((n : ℕ) × (size : ℕ) × Written bs n size) ⊎ CutShort bs ⊎ Overlong bs → (Beginning bs → ⊥) → Overlong bs
three_by bs (inl (n, size, w)) h = absurd (h (written_begins bs n size w))
three_by bs (inr (inl c)) h = absurd (h (begins bs c))
three_by bs (inr (inr o)) h = o

pub told_so : Told
told_so = record {
  two = λ bs. ((λ c. (begins bs c, λ n size w. ((one_of_three bs).2 n size w).0 c)), two_by bs (one_of bs));
  three = λ bs. (never bs, three_by bs (one_of bs));
}

no_shorter : (front : List ℕ) (l : ℕ) (others : List ℕ) (m : ℕ) → (l ≡ 0 → front ≡ []) → m < 128 → value front l ≡ value others m → length front ≤ length others
no_shorter [] l others m s e h = omega arith
no_shorter (b ∷ bs) zero others m s e h = absurd (let q = ap length (s refl) in omega arith)
no_shorter (b ∷ bs) (suc l) [] m s e h = let p = positive bs (suc l) (omega arith) in absurd (omega arith)
no_shorter (b ∷ bs) (suc l) (c ∷ cs) m s e h =
    let v : value bs (suc l) ≡ value cs m = omega arith in
    let q = no_shorter bs (suc l) cs m (λ z. absurd (omega arith)) e v in
    omega arith

pub shortest : Shortest
shortest bytes others w v s h = no_shorter w.front w.last v.front v.last s v.ends h

pub numbers_stand : NumbersStand
unfolding NumbersStand
numbers_stand = record { judged = numbers; parted = one_of_three; paired = one_to_one; told = told_so; shortest = shortest }
