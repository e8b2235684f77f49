-- A loop that writes items one after another, each with its number, behind what a writer holds.
use Rattle.std.proofs.Common.{◌≡◌, ℕ, ◌+◌, List, [], ◌∷◌, ◌++◌, Some, None, Option, sym, ap, ◌∙◌, append_assoc, append-nil}
use Rattle.std.specs.Io.KnownBytes.{Appends}
use Rattle.notation.specs.Numbered.{numbered}

pub appends_none : (u : Option (List ℕ)) → Appends u u []
appends_none None = tt
appends_none (Some xs) = sym (append-nil xs)

pub appends_both : (u v w : Option (List ℕ)) (a b : List ℕ) → Appends u v a → Appends v w b → Appends u w (a ++ b)
appends_both None v w a b x y = tt
appends_both (Some xs) None w a b x y = absurd x
appends_both (Some xs) (Some ys) None a b x y = y
appends_both (Some xs) (Some ys) (Some zs) a b x y = y ∙ ap (λ (t : List ℕ). t ++ b) x ∙ append_assoc xs a b

module _ {X : Type 0} (text : ℕ → X → List ℕ) (all : List ℕ) (was : Option (List ℕ)) where
  -- what was written, and the items that are left, from number k on, are all of the text
  pub record Writes (now : Option (List ℕ)) (k : ℕ) (rest : List X) : Type 0 where
    pub done : List ℕ
    pub grown : Appends was now done
    pub whole : done ++ numbered text k rest ≡ all

  pub nothing_yet : (k : ℕ) (xs : List X) → numbered text k xs ≡ all → Writes was k xs
  nothing_yet k xs e = record { done = []; grown = appends_none was; whole = e }

  pub one_written : (u v : Option (List ℕ)) (k j : ℕ) (x : X) (xs ys : List X) → Writes u k ys → ys ≡ x ∷ xs → Appends u v (text k x) → j ≡ k + 1 → Writes v j xs
  one_written u v k j x xs ys w s a e = record {
    done = w.done ++ text k x;
    grown = appends_both was u v w.done (text k x) w.grown a;
    whole = append_assoc w.done (text k x) (numbered text j xs) ∙ ap (λ (i : ℕ). w.done ++ (text k x ++ numbered text i xs)) e ∙ ap (λ (zs : List X). w.done ++ numbered text k zs) (sym s) ∙ w.whole;
  }

  pub all_written : (u v : Option (List ℕ)) (k : ℕ) (xs : List X) (end : List ℕ) → Writes u k xs → xs ≡ [] → Appends u v end → Appends was v (all ++ end)
  all_written u v k xs end w s a =
      let whole : w.done ≡ all = sym (append-nil w.done) ∙ ap (λ (zs : List X). w.done ++ numbered text k zs) (sym s) ∙ w.whole in
      rw (← whole) (appends_both was u v w.done end w.grown a)
