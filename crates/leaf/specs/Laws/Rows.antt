-- What stands on a sheet, shape by shape, and numbers one after the other.
use Rattle.std.specs.Prelude.{◌≡◌, ℕ, ◌+◌, ◌≤◌, ◌⊎◌, List, [], ◌∷◌, ◌++◌, length, drop, take, refl}
use Rattle.std.proofs.Common.{zero, suc, drop-drop, sym, ap, ◌∙◌, subst, inl, inr, arith}
use Rattle.std.proofs.lemmas.List.{append_assoc, length-append, take-append-drop}
use Rattle.faults.specs.Faults.{found, refused, at_byte}
use Rattle.leaf.specs.Encoding.{Written, Bytes, encode}
use Rattle.leaf.specs.Fields.{Shape, byte, number, Stands, Ends, Misspelt, shape_at}
use Rattle.leaf.specs.Layouts.{AreLeafNumbers, AreNumbers, StandAsLeaf, StandInTurn, spelled, spelled_leaf}
use Rattle.leaf.specs.Numbers.{number_at}
use Rattle.leaf.specs.Reading.{byte_in}
use Rattle.leaf.specs.Laws.Writing.{one_of, finds_it, cuts_it, bars_it}
use Rattle.leaf.specs.Laws.Encodes.{one_to_one}

-- what is read of a shape, by what stands there
pub shape_found : (h : Shape) (s : List ℕ) (at n size : ℕ) → Stands h (drop at s) n size → shape_at h s at ≡ found n (at + size)
unfolding number_at
shape_found byte s at n size (e, f) = ap (byte_in (length s) at) e ∙ ap (λ z. found n (at + z)) (sym f)
shape_found number s at n size w = finds_it (length s) at (drop at s) n size w

pub shape_ends : (h : Shape) (s : List ℕ) (at : ℕ) → Ends h (drop at s) → shape_at h s at ≡ refused (at_byte 2 (length s))
unfolding number_at
shape_ends byte s at e = ap (byte_in (length s) at) e
shape_ends number s at c = cuts_it (length s) at (drop at s) c

pub shape_bad : (h : Shape) (s : List ℕ) (at : ℕ) → Misspelt h (drop at s) → shape_at h s at ≡ refused (at_byte 3 at)
unfolding number_at
shape_bad byte s at c = absurd c
shape_bad number s at c = bars_it (length s) at (drop at s) c

-- one of the three holds
abbrev pub Judged : Shape → List ℕ → Type 0
Judged h bytes = ((n : ℕ) × (size : ℕ) × Stands h bytes n size) ⊎ Ends h bytes ⊎ Misspelt h bytes

judge_byte : (bytes : List ℕ) → Judged byte bytes
judge_byte [] = inr (inl refl)
judge_byte (b ∷ bs) = inl (b, 1, (refl, refl))

pub judge : (h : Shape) (bytes : List ℕ) → Judged h bytes
judge byte bytes = judge_byte bytes
judge number bytes = one_of bytes

bytes_drop : (k : ℕ) (s : List ℕ) → Bytes s → Bytes (drop k s)
bytes_drop zero s h = h
bytes_drop (suc k) [] h = tt
bytes_drop (suc k) (x ∷ xs) h = bytes_drop k xs h.1

pub drop_front : (xs ys : List ℕ) → drop (length xs) (xs ++ ys) ≡ ys
drop_front [] ys = refl
drop_front (x ∷ xs) ys = drop_front xs ys

pub both_below : (xs ys : List ℕ) → AreNumbers xs → AreNumbers ys → AreNumbers (xs ++ ys)
both_below [] ys h g = g
both_below (x ∷ xs) ys h g = (h.0, both_below xs ys h.1 g)

pub row_parts : (s : List ℕ) (xs ys : List ℕ) (at end : ℕ) → StandInTurn s at (xs ++ ys) end → (mid : ℕ) × StandInTurn s at xs mid × StandInTurn s mid ys end
row_parts s [] ys at end h = (at, refl, h)
row_parts s (x ∷ xs) ys at end (size, w, h) = let r = row_parts s xs ys (at + size) end h in (r.0, (size, w, r.1), r.2)

pub row_join : (s : List ℕ) (xs ys : List ℕ) (at mid end : ℕ) → StandInTurn s at xs mid → StandInTurn s mid ys end → StandInTurn s at (xs ++ ys) end
row_join s [] ys at mid end h g = subst (λ (z : ℕ). StandInTurn s z ys end) (sym h) g
row_join s (x ∷ xs) ys at mid end (size, w, h) g = (size, w, row_join s xs ys (at + size) mid end h g)

-- in bytes: the numbers stand there exactly where their encodings do
pub written_within : (bytes : List ℕ) (n size : ℕ) → Written bytes n size → size ≤ length bytes
written_within bytes n size (w, s, v, z) =
    let e = ap length w.bytes_are in
    let l = length-append w.front (w.last ∷ w.rest) in
    omega arith

length_take_all : (k : ℕ) (xs : List ℕ) → k ≤ length xs → length (take k xs) ≡ k
length_take_all zero xs h = refl
length_take_all (suc k) [] h = absurd (omega arith)
length_take_all (suc k) (x ∷ xs) h = ap suc (length_take_all k xs (omega arith))

row_spelled : (s : List ℕ) (at : ℕ) (ns : List ℕ) (end : ℕ) → Bytes s → StandInTurn s at ns end → (drop at s ≡ spelled ns ++ drop end s) × (end ≡ at + length (spelled ns))
row_spelled s at [] end b h = (ap (λ (k : ℕ). drop k s) h, omega (arith, h))
row_spelled s at (n ∷ ns) end b (size, w, h) =
    let t = (one_to_one.back (drop at s) n size (bytes_drop at s b) w).0 in
    let l : size ≡ length (encode n) = sym (length_take_all size (drop at s) (written_within (drop at s) n size w)) ∙ ap length t in
    let r = row_spelled s (at + size) ns end b h in
    let m = length-append (encode n) (spelled ns) in (
      sym (take-append-drop size (drop at s)) ∙ (ap (λ (xs : List ℕ). xs ++ drop size (drop at s)) t ∙ (ap (λ (xs : List ℕ). encode n ++ xs) (drop-drop size at s ∙ r.0) ∙ sym (append_assoc (encode n) (spelled ns) (drop end s)))),
      omega (arith, l, r.1, m),
    )

spelled_row : (s : List ℕ) (at : ℕ) (ns rest : List ℕ) → AreNumbers ns → drop at s ≡ spelled ns ++ rest → StandInTurn s at ns (at + length (spelled ns))
spelled_row s at [] rest b h = omega arith
spelled_row s at (n ∷ ns) rest b h =
    let e : drop at s ≡ encode n ++ (spelled ns ++ rest) = h ∙ append_assoc (encode n) (spelled ns) rest in
    let d : drop (at + length (encode n)) s ≡ spelled ns ++ rest = sym (drop-drop (length (encode n)) at s) ∙ (ap (drop (length (encode n))) e ∙ drop_front (encode n) (spelled ns ++ rest)) in
    let l : at + length (encode n) + length (spelled ns) ≡ at + length (encode n ++ spelled ns) = simp length-append (omega arith) in
    (length (encode n), subst (λ xs. Written xs n (length (encode n))) (sym e) (one_to_one.there n (spelled ns ++ rest) b.0), subst (StandInTurn s (at + length (encode n)) ns) l (spelled_row s (at + length (encode n)) ns rest b.1 d))

pub row_leaf : (s : List ℕ) (at : ℕ) (ns : List ℕ) (end : ℕ) → Bytes s → StandAsLeaf s at ns end → (drop at s ≡ spelled_leaf ns ++ drop end s) × (end ≡ at + length (spelled_leaf ns))
row_leaf s at [] end b h = absurd h
row_leaf s at (f ∷ ns) end b (e, h) =
    let r = row_spelled s (at + 1) ns end b h in
    (e ∙ ap (λ (xs : List ℕ). f ∷ xs) (drop-drop 1 at s ∙ r.0), omega (arith, r.1))

pub leaf_row : (s : List ℕ) (at : ℕ) (ns rest : List ℕ) → AreLeafNumbers ns → drop at s ≡ spelled_leaf ns ++ rest → StandAsLeaf s at ns (at + length (spelled_leaf ns))
leaf_row s at [] rest b h = absurd b
leaf_row s at (f ∷ ns) rest b h =
    let d : drop 1 (drop at s) ≡ spelled ns ++ rest = ap (drop 1) h in
    let r = spelled_row s (at + 1) ns rest b (sym (drop-drop 1 at s) ∙ d) in
    (h ∙ ap (λ (xs : List ℕ). f ∷ xs) (sym d), subst (StandInTurn s (at + 1) ns) (omega arith) r)
