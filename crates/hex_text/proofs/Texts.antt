-- The bytes of a text, from its beginning on.
use Rattle.std.proofs.Common.{◌≡◌, ℕ, ◌-◌, ◌<◌, ◌≤◌, false, true, eqb, ◌≢◌, List, [], ◌∷◌, ◌++◌, length, get_or, take, drop, Some, None, Option, sym, refl, ap, ◌∙◌, arith}
use Rattle.std.specs.Option.{option_map}
use Rattle.std.proofs.lemmas.List.{append_assoc, append-nil, take_all}
use Rattle.std.proofs.lemmas.Bool.{cond-false, cond-true, eq-eqb, ne_eqb}
use Rattle.hex_text.specs.Hex.{before, byte_of, digit_of, hex_of}

-- what stands behind the first character, as a pattern names it
abbrev behind : List ℕ → List ℕ
behind xs = take (length xs - 1) (drop 1 xs)

tail : (b : ℕ) (bs : List ℕ) → behind (b ∷ bs) ≡ bs
tail b bs = take_all (length (b ∷ bs) - 1) bs (omega arith)

abbrev first : List ℕ → ℕ
first xs = get_or xs 0 0

space : (b : ℕ) (bs : List ℕ) → eqb b 32 ≡ true → hex_of bs ≡ hex_of (b ∷ bs)
unfolding hex_of
space b [] e = sym (cond-true (eqb b 32) (Some []) None e)
space b (c ∷ bs) e = sym (cond-true (eqb b 32) _ _ e)

digits : (b c : ℕ) (bs : List ℕ) → eqb b 32 ≡ false → hex_of (b ∷ c ∷ bs) ≡ before (byte_of (digit_of b) (digit_of c)) (hex_of bs)
unfolding hex_of
digits b c bs e = cond-false (eqb b 32) _ _ e

digit_alone : (b : ℕ) → eqb b 32 ≡ false → hex_of (b ∷ []) ≡ None
unfolding hex_of
digit_alone b e = cond-false (eqb b 32) _ _ e

nothing : hex_of [] ≡ Some []
unfolding hex_of
nothing = refl

-- the bytes so far, then those of the rest
abbrev pub joined : List ℕ → List ℕ → Option (List ℕ)
joined bytes rest = option_map (λ (ms : List ℕ). bytes ++ ms) (hex_of rest)

module _ (bytes : List ℕ) (all : Option (List ℕ)) where
  pub all_read : (rest : List ℕ) → length rest < 1 → joined bytes rest ≡ all → Some bytes ≡ all
  all_read [] h e = ap (λ (r : List ℕ). Some r) (sym (append-nil bytes)) ∙ (sym (ap (option_map (λ (ms : List ℕ). bytes ++ ms)) nothing) ∙ e)
  all_read (b ∷ bs) h e = absurd (omega arith)

  pub past_space : (rest : List ℕ) → 1 ≤ length rest → first rest ≡ 32 → joined bytes rest ≡ all → joined bytes (behind rest) ≡ all
  past_space [] h s e = absurd (omega arith)
  past_space (b ∷ bs) h s e = ap (joined bytes) (tail b bs) ∙ (ap (option_map (λ (ms : List ℕ). bytes ++ ms)) (space b bs (eq-eqb b 32 s)) ∙ e)

  pub cut_short : (rest : List ℕ) → 1 ≤ length rest → first rest ≢ 32 → length (behind rest) < 1 → joined bytes rest ≡ all → None ≡ all
  cut_short [] h s l e = absurd (omega arith)
  cut_short (b ∷ []) h s l e = sym (ap (option_map (λ (ms : List ℕ). bytes ++ ms)) (digit_alone b (ne_eqb b 32 s))) ∙ e
  cut_short (b ∷ c ∷ bs) h s l e = absurd (omega (arith, ap length (tail b (c ∷ bs))))

  module _ (o : Option ℕ) (rest : List ℕ) where
    -- the byte of the first two characters comes next
    abbrev pub Byte : Type 0
    Byte = (1 ≤ length rest) × (first rest ≢ 32) × (1 ≤ length (behind rest)) × (o ≡ byte_of (digit_of (first rest)) (digit_of (first (behind rest))))

  two : (o : Option ℕ) (rest : List ℕ) → Byte o rest → hex_of rest ≡ before o (hex_of (behind (behind rest)))
  two o [] w = absurd (omega (arith, w.0))
  two o (b ∷ []) w = absurd (omega (arith, w.2, ap length (tail b [])))
  two o (b ∷ c ∷ bs) w =
      let t = tail b (c ∷ bs) in
      digits b c bs (ne_eqb b 32 w.1) ∙
      (ap (λ (cs : List ℕ). before (byte_of (digit_of b) (digit_of (first cs))) (hex_of bs)) (sym t) ∙
      (ap (λ (p : Option ℕ). before p (hex_of bs)) (sym w.3) ∙ ap (λ (cs : List ℕ). before o (hex_of cs)) (sym (ap behind t ∙ tail c bs))))

  pub no_byte : (o : Option ℕ) (rest : List ℕ) → Byte o rest → None ≡ o → joined bytes rest ≡ all → None ≡ all
  no_byte o rest w n e =
      ap (λ (p : Option ℕ). option_map (λ (ms : List ℕ). bytes ++ ms) (before p (hex_of (behind (behind rest))))) n ∙
      (sym (ap (option_map (λ (ms : List ℕ). bytes ++ ms)) (two o rest w)) ∙ e)

  shift : (n : ℕ) (o : Option (List ℕ)) → option_map (λ ms. (bytes ++ n ∷ []) ++ ms) o ≡ option_map (λ ms. bytes ++ ms) (option_map (λ ms. n ∷ ms) o)
  shift n None = refl
  shift n (Some ms) = ap (λ (r : List ℕ). Some r) (append_assoc bytes (n ∷ []) ms)

  pub one_byte : (o : Option ℕ) (rest : List ℕ) (n : ℕ) (new : List ℕ) → Byte o rest → Some n ≡ o → new ≡ bytes ++ n ∷ [] → joined bytes rest ≡ all → joined new (behind (behind rest)) ≡ all
  one_byte o rest n new w s p e =
      ap (λ (bs : List ℕ). joined bs (behind (behind rest))) p ∙
      (shift n (hex_of (behind (behind rest))) ∙
      (ap (λ (q : Option ℕ). option_map (λ (ms : List ℕ). bytes ++ ms) (before q (hex_of (behind (behind rest))))) s ∙
      (sym (ap (option_map (λ (ms : List ℕ). bytes ++ ms)) (two o rest w)) ∙ e)))
