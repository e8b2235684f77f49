-- Lines of text one after the other.
use Rattle.std.proofs.Common.{◌≡◌, ℕ, zero, suc, ◌+◌, ◌<◌, ◌≤◌, List, [], ◌∷◌, ◌++◌, length, get_or, take, drop, sym, ap, refl, ◌∙◌, zero-add, arith}
use Rattle.std.proofs.lemmas.List.{append_assoc, append-nil, length-append, take_at, take_more}
use Rattle.texts.specs.Text.{Wrote, over, together}
use Rattle.texts.specs.Laws.Writes.{fits}

-- what was written at the front of a buffer with room stands there
pub written_front : (t old new : List ℕ) (r : ℕ) → Wrote old 0 t new r → length t ≤ length old → take r new ≡ t
written_front t old new r w room =
    let e = fits old 0 t (omega arith) in
    let end : length t ≡ r = sym (w.end ∙ (zero-add _ ∙ ap length e)) in
    ap (take r) (w.bytes ∙ ap (over old 0) e) ∙ take_at t _ r end

module _ {X : Type 0} (text : X → List ℕ) where
  together_push : (xs : List X) (x : X) → together text (xs ++ x ∷ []) ≡ together text xs ++ text x
  together_push [] x = append-nil (text x)
  together_push (y ∷ ys) x = ap (λ (t : List ℕ). text y ++ t) (together_push ys x) ∙ sym (append_assoc (text y) (together text ys) (text x))

  together_split : (xs : List X) (i : ℕ) → together text xs ≡ together text (take i xs) ++ together text (drop i xs)
  together_split xs zero = refl
  together_split [] (suc i) = refl
  together_split (x ∷ xs) (suc i) = ap (λ (t : List ℕ). text x ++ t) (together_split xs i) ∙ sym (append_assoc (text x) (together text (take i xs)) (together text (drop i xs)))

  -- one more line behind those so far
  pub together_more : (xs : List X) (i : ℕ) (x : X) (old now new : List ℕ) → i < length xs → x ≡ get_or xs i x
      → now ≡ old ++ together text (take i xs) → new ≡ now ++ text x → new ≡ old ++ together text (take (i + 1) xs)
  together_more xs i x old now new h e p q =
      q ∙ ap (λ (t : List ℕ). t ++ text x) p ∙ append_assoc old (together text (take i xs)) (text x)
      ∙ ap (λ (t : List ℕ). old ++ t) (sym (together_push (take i xs) x) ∙ ap (together text) (sym (take_more xs i x h ∙ ap (λ z. take i xs ++ z ∷ []) (sym e))))

  -- where one line has no room, all have none
  pub room_missing : (xs : List X) (i : ℕ) (x : X) (old now : List ℕ) (capacity : ℕ) → i < length xs → x ≡ get_or xs i x → now ≡ old ++ together text (take i xs)
      → capacity < length now + length (text x) → capacity < length old + length (together text xs)
  room_missing xs i x old now capacity h e p few =
      let more = ap length (together_more xs i x old now (now ++ text x) h e p refl) in
      let all = ap length (together_split xs (i + 1)) in
      omega (arith, length-append now (text x), length-append old (together text (take (i + 1) xs)), length-append (together text (take (i + 1) xs)) (together text (drop (i + 1) xs)))
