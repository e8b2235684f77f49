-- Sheets that are written from leaves.
use Rattle.std.specs.Prelude.{◌≡◌, ℕ, suc, ◌+◌, ◌-◌, ◌<◌, ◌≤◌, true, cond, List, [], ◌∷◌, ◌++◌, length, take, drop, Some, None, Option, nat_le, refl}
use Rattle.std.proofs.Common.{sym, ap, subst, ◌∙◌, arith, length-drop}
use Rattle.std.proofs.lemmas.Bool.{cond_both, cond-true, cond-false, le-leb, lt-leb}
use Rattle.std.proofs.lemmas.List.{append-nil, append_assoc, append_cancel_left, length-append, length-map, length-take, take-append-drop}
use Rattle.faults.specs.Faults.{Refused, found, at_byte}
use Rattle.leaf.specs.Kind.{Kind, Laws, before, leaf_at}
use Rattle.leaf.specs.Grammar.{WellRead}
use Rattle.leaf.specs.Layouts.{bytes_of, written_leaf}
use Rattle.leaf.specs.Laws.Judging.{leaf_grammar, well_read}
use Rattle.list.specs.Lists.{All, any, inserted, inserted_all}
use Rattle.list.specs.Sheets.{Outcome, after_leaf, ends, sheet_outcome}
use Rattle.list.specs.Encoded.{IsLeaf, WrittenSheets, leaves_bytes, leaves_of, sheet_bytes, written_outcome}
use Rattle.list.proofs.Reading.{all_append_parts}
use Rattle.list.proofs.Fed.{accepted_full, accepted_is, left, left_end, left_leaf, left_stop, sheet_begun}

module _ {V L : Type 0} (k : Kind V L) where
  pub longer : (x : L) (xs : List L) → length (inserted (before k) x xs) ≡ suc (length xs)
  longer x [] = refl
  longer x (y ∷ ys) =
      cond_both (any (λ z. before k z x) (y ∷ ys)) (y ∷ inserted (before k) x ys) (x ∷ (y ∷ ys)) (λ zs. length zs ≡ suc (length (y ∷ ys))) (λ t. ap suc (longer x ys)) (λ t. refl)

  pub all_longer : (xs ys : List L) → length (inserted_all (before k) xs ys) ≡ length ys + length xs
  all_longer [] ys = omega arith
  all_longer (x ∷ xs) ys = let e = all_longer xs (inserted (before k) x ys) in let i = longer x ys in omega (arith, e, i)

-- leaves accepted before an outcome
abbrev pub accepted_before : {L : Type 0} → List L → Outcome L → Outcome L
accepted_before xs o = record { taken = xs ++ o.taken; held = o.held; start = o.start; stop = o.stop }

module _ {V L : Type 0} (k : Kind V L) (laws : Laws k) (b : ℕ) where
  pub bytes_append : (ws vs : List k.Written) → leaves_bytes k b (ws ++ vs) ≡ leaves_bytes k b ws ++ leaves_bytes k b vs
  bytes_append [] vs = refl
  bytes_append (w ∷ ws) vs = ap (λ (xs : List ℕ). bytes_of (k.layout b) w ++ xs) (bytes_append ws vs) ∙ sym (append_assoc (bytes_of (k.layout b) w) (leaves_bytes k b ws) (leaves_bytes k b vs))

  -- a leaf stands there in its bytes
  leaf_stands : (bytes front rest : List ℕ) (w : k.Written) → IsLeaf k b w → bytes ≡ (b ∷ front) ++ (bytes_of (k.layout b) w ++ rest)
      → leaf_at k bytes (length (b ∷ front)) ≡ found (written_leaf (k.layout b) w) (length (b ∷ front) + length (bytes_of (k.layout b) w))
  leaf_stands bytes front rest w s q = ap (λ (xs : List ℕ). leaf_at k xs (length (b ∷ front))) q ∙ (leaf_grammar k laws).read_back b w front rest s.fits s.window

  some_bytes : (w : k.Written) → IsLeaf k b w → 0 < length (bytes_of (k.layout b) w)
  some_bytes w s =
      let e = leaf_stands ((b ∷ []) ++ (bytes_of (k.layout b) w ++ [])) [] [] w s refl in
      let p = (subst (WellRead k ((b ∷ []) ++ (bytes_of (k.layout b) w ++ [])) 1) e (well_read k laws ((b ∷ []) ++ (bytes_of (k.layout b) w ++ [])) 1)).1 in
      omega (arith, p)

  module _ (n : ℕ) (bytes : List ℕ) where
    abbrev goes : ℕ → List L → Outcome L
    goes at h = left k n bytes at h

    -- leaves that stand there in their bytes are accepted, if there are places for them
    pub leaves_stand : (ws : List k.Written) (front rest : List ℕ) (h : List L) → All (IsLeaf k b) ws → bytes ≡ (b ∷ front) ++ (leaves_bytes k b ws ++ rest) → length ws ≤ n - length h
        → goes (length (b ∷ front)) h ≡ accepted_before (leaves_of k b ws) (goes (length ((b ∷ front) ++ leaves_bytes k b ws)) (inserted_all (before k) (leaves_of k b ws) h))
    leaves_stand [] front rest h s q r = ap (λ (xs : List ℕ). goes (length xs) h) (sym (append-nil (b ∷ front)))
    leaves_stand (w ∷ ws) front rest h s q r =
        let c = bytes_of (k.layout b) w in
        let at = length (b ∷ front) in
        let x = written_leaf (k.layout b) w in
        let h' = inserted (before k) x h in
        let e = ap (λ (xs : List ℕ). (b ∷ front) ++ xs) (append_assoc c (leaves_bytes k b ws) rest) in
        let f = append_assoc (b ∷ front) c (leaves_bytes k b ws ++ rest) in
        let p = some_bytes w s.0 in
        let m = ap length (q ∙ e) in
        let m1 = length-append (b ∷ front) (c ++ (leaves_bytes k b ws ++ rest)) in
        let m2 = length-append c (leaves_bytes k b ws ++ rest) in
        let g = longer k x h in
        let i = accepted_is k n bytes at h x (at + length c) (leaf_stands bytes front (leaves_bytes k b ws ++ rest) w s.0 (q ∙ e)) (lt-leb n (length h) (omega (arith, r))) in
        left_leaf k n bytes laws at h x (at + length c) (omega (arith, m, m1, m2, p)) i
        ∙ (ap (λ (j : ℕ). after_leaf x (goes j h')) (sym (length-append (b ∷ front) c))
        ∙ (ap (after_leaf x) (leaves_stand ws (front ++ c) rest h' s.1 (q ∙ (e ∙ sym f)) (omega (arith, r, g)))
        ∙ ap (λ (xs : List ℕ). after_leaf x (accepted_before (leaves_of k b ws) (goes (length xs) (inserted_all (before k) (leaves_of k b ws) h')))) (append_assoc (b ∷ front) c (leaves_bytes k b ws))))

  -- behind the leaves for which there were places
  rest_is : (n : ℕ) (bytes : List ℕ) (ts ds : List k.Written) (g : List L) → All (IsLeaf k b) ds → bytes ≡ sheet_bytes k b ts ++ leaves_bytes k b ds → (0 < length ds → n ≤ length g)
      → (o : Option Refused) → (length ds ≡ 0 → o ≡ None) → (0 < length ds → o ≡ Some (at_byte 10 (length (sheet_bytes k b ts)))) → left k n bytes (length (sheet_bytes k b ts)) g ≡ ends (length (sheet_bytes k b ts)) g o
  rest_is n bytes ts [] g s q f o u v =
      let at = length (sheet_bytes k b ts) in
      left_end k n bytes at g (let m = ap length q in let i = length-append (sheet_bytes k b ts) [] in omega (arith, m, i)) ∙ ap (ends at g) (sym (u refl))
  rest_is n bytes ts (d ∷ ds) g s q f o u v =
      let at = length (sheet_bytes k b ts) in
      let c = bytes_of (k.layout b) d in
      let m = ap length q in
      let i = length-append (sheet_bytes k b ts) (c ++ leaves_bytes k b ds) in
      let j = length-append c (leaves_bytes k b ds) in
      let p = some_bytes d s.0 in
      left_stop k n bytes at g (at_byte 10 at) (omega (arith, m, i, j, p))
      (accepted_full k n bytes at g (written_leaf (k.layout b) d) (at + length c) (leaf_stands bytes (leaves_bytes k b ts) (leaves_bytes k b ds) d s.0 q) (le-leb n (length g) (f (omega arith))))
      ∙ ap (ends at g) (sym (v (omega arith)))

  written : (n : ℕ) (ws : List k.Written) (h : List L) → k.kind_byte b ≡ true → All (IsLeaf k b) ws → length (sheet_bytes k b ws) ≤ 32768 → sheet_outcome k n (sheet_bytes k b ws) h ≡ written_outcome k b n ws h
  written n ws h t s l =
      let bytes = sheet_bytes k b ws in
      let room = n - length h in
      let ts = take room ws in
      let ds = drop room ws in
      let g = inserted_all (before k) (leaves_of k b ts) h in
      let start = length (sheet_bytes k b ts) in
      let stop = Some (at_byte 10 start) in
      let full = nat_le (length ws) room in
      let (st, sd) = all_append_parts (IsLeaf k b) ts ds (subst (All (IsLeaf k b)) (sym (take-append-drop room ws)) s) in
      let e : bytes ≡ sheet_bytes k b ts ++ leaves_bytes k b ds = ap (λ (xs : List ℕ). b ∷ xs) (ap (leaves_bytes k b) (sym (take-append-drop room ws)) ∙ bytes_append ts ds) in
      let lt = length-take room ws in
      let ld = length-drop room ws in
      let lg : length g ≡ length h + length ts = all_longer k (leaves_of k b ts) h ∙ ap (λ (j : ℕ). length h + j) (length-map ts (written_leaf (k.layout b))) in
      sheet_begun k n bytes h (record { short = l; some = omega arith; of_kind = t })
      ∙ (leaves_stand n bytes ts [] (leaves_bytes k b ds) h st e (omega (arith, lt))
      ∙ (ap (accepted_before (leaves_of k b ts)) (rest_is n bytes ts ds g sd e (λ i. omega (arith, i, lt, ld, lg)) (cond full None stop)
      (λ i. cond-true full None stop (le-leb (length ws) room (omega (arith, i, ld)))) (λ i. cond-false full None stop (lt-leb (length ws) room (omega (arith, i, ld)))))
      ∙ λ i. record { taken = append-nil (leaves_of k b ts) i; held = g; start = start; stop = cond full None stop }))

  alone : (ws vs : List k.Written) → All (IsLeaf k b) ws → All (IsLeaf k b) vs → leaves_bytes k b ws ≡ leaves_bytes k b vs → ws ≡ vs
  alone [] [] s t e = refl
  alone [] (v ∷ vs) s t e = absurd (let p = some_bytes v t.0 in let l = ap length e in let a = length-append (bytes_of (k.layout b) v) (leaves_bytes k b vs) in omega (arith, p, l, a))
  alone (w ∷ ws) [] s t e = absurd (let p = some_bytes w s.0 in let l = ap length e in let a = length-append (bytes_of (k.layout b) w) (leaves_bytes k b ws) in omega (arith, p, l, a))
  alone (w ∷ ws) (v ∷ vs) s t e =
      let p : w ≡ v = (leaf_grammar k laws).alone b w v (leaves_bytes k b ws) (leaves_bytes k b vs) s.0.fits t.0.fits e in
      let q : ws ≡ vs = alone ws vs s.1 t.1 (append_cancel_left (bytes_of (k.layout b) w) (leaves_bytes k b ws) (leaves_bytes k b vs) (e ∙ ap (λ z. bytes_of (k.layout b) z ++ leaves_bytes k b vs) (sym p))) in
      λ i. p i ∷ q i

pub written_sheets : {V L : Type 0} (k : Kind V L) → Laws k → WrittenSheets k
written_sheets k laws = record { written = λ n b. written k laws b n; alone = λ b ws vs s t e. alone k laws b ws vs s t (ap (drop 1) e) }
