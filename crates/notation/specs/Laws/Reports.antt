-- A loop that writes what each line of a text comes to, and counts it as one of three.
use Rattle.std.proofs.Common.{◌≡◌, ℕ, ◌+◌, ◌-◌, ◌≤◌, ◌^◌, min, Bool, cond, count_by, List, [], ◌∷◌, ◌++◌, length, map, Some, None, IfSome, IsSome, MatchOption, Option, sym, ap, ◌∙◌}
use Rattle.std.specs.Io.KnownBytes.{Appends}
use Rattle.notation.specs.Numbered.{numbered}
use Rattle.notation.specs.Laws.Counted.{Counts, all_counted, none_counted, one_counted}
use Rattle.notation.specs.Laws.Numbered.{Writes, all_written, nothing_yet, one_written}

-- a count goes on where b says so, as far as 64 bits hold it
abbrev pub Steps : Bool → ℕ → ℕ → Type 0
Steps b n m = m ≡ cond b (min (n + 1) (2 ^ 64 - 1)) n

module _ {O : Type 0} (text : ℕ → O → List ℕ) (first second third : O → Bool) (all : List O) (was : Option (List ℕ)) where
  -- what is written and counted, and the outcomes that are left, from line k on, are all
  pub record Left (now : Option (List ℕ)) (a b c : ℕ) (k : ℕ) (rest : List O) : Type 0 where
    pub few : length all ≤ 2 ^ 63
    pub written : Writes text (numbered text 1 all) was now k rest
    pub firsts : Counts first all a rest
    pub seconds : Counts second all b rest
    pub thirds : Counts third all c rest

  pub starts : length all ≤ 2 ^ 63 → (a b c k : ℕ) (rest : List O) → a ≡ 0 → b ≡ 0 → c ≡ 0 → k ≡ 1 → rest ≡ all → Left was a b c k rest
  starts few a b c k rest x y z e s = record {
    few = few;
    written = nothing_yet text (numbered text 1 all) was k rest (ap (λ (i : ℕ). numbered text i rest) e ∙ ap (numbered text 1) s);
    firsts = rw (x, s) (none_counted first all);
    seconds = rw (y, s) (none_counted second all);
    thirds = rw (z, s) (none_counted third all);
  }

  turn : (u v : Option (List ℕ)) (a b c a' b' c' k j : ℕ) (o : O) (os ps : List O) → Left u a b c k ps → ps ≡ o ∷ os → j ≡ k + 1 →
      Appends u v (text k o) → Steps (first o) a a' × (Steps (second o) b b' × Steps (third o) c c') → Left v a' b' c' j os
  turn u v a b c a' b' c' k j o os ps l s e w t = record {
    few = l.few;
    written = one_written text (numbered text 1 all) was u v k j o os ps l.written s w e;
    firsts = one_counted first all a a' o os ps l.few l.firsts s t.0;
    seconds = one_counted second all b b' o os ps l.few l.seconds s t.1.0;
    thirds = one_counted third all c c' o os ps l.few l.thirds s t.1.1;
  }

  -- a line was reported whose outcome is known
  pub reported : (N : Type 0) (K : O → Type 0) (of : List ℕ → O) (u v : Option (List ℕ)) (a b c a' b' c' k i j : ℕ) (line : List ℕ) (lines rest : List (List ℕ)) (o : Option O) →
      ((x : O) → K x → Steps (first x) a a' × (Steps (second x) b b' × Steps (third x) c c')) → Left u a b c k (map of rest) → rest ≡ line ∷ lines → i ≡ k → j ≡ i + 1 →
      IfSome o (λ x. x ≡ of line) → IsSome o → MatchOption o N K → IfSome o (λ x. Appends u v (text i x)) → Left v a' b' c' j (map of lines)
  reported N K of u v a b c a' b' c' k i j line lines rest None t l s e f known some counts wrote = cc
  reported N K of u v a b c a' b' c' k i j line lines rest (Some x) t l s e f known some counts wrote =
      turn u v a b c a' b' c' k j x (map of lines) (map of rest) l
      (ap (map of) s ∙ ap (λ (y : O). y ∷ map of lines) (sym known))
      (f ∙ ap (λ (n : ℕ). n + 1) e) (rw e at wrote) (t x counts)

  -- what was written is all, and so is what was counted
  pub record Done (now : Option (List ℕ)) (a b c : ℕ) : Type 0 where
    pub firsts : a ≡ count_by first all
    pub seconds : b ≡ count_by second all
    pub thirds : c ≡ count_by third all
    pub then : (v : Option (List ℕ)) (end : List ℕ) → Appends now v end → Appends was v (numbered text 1 all ++ end)

  pub ends : (u : Option (List ℕ)) (a b c k : ℕ) (rest : List O) → Left u a b c k rest → rest ≡ [] → Done u a b c
  ends u a b c k rest l s = record {
    firsts = all_counted first all a rest l.firsts s;
    seconds = all_counted second all b rest l.seconds s;
    thirds = all_counted third all c rest l.thirds s;
    then = λ v end w. all_written text (numbered text 1 all) was u v k rest end l.written s w;
  }
