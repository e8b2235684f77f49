-- The divisors that the parts of a text write, one part after another.
use Rattle.std.proofs.Common.{◌≡◌, ℕ, List, [], ◌∷◌, ◌++◌, map, Some, None, Option, Bor, sym, refl, ap, ◌∙◌, subst}
use Rattle.std.specs.Iterator.{AlwaysYields}
use Rattle.std.specs.Option.{option_map}
use Rattle.std.proofs.lemmas.List.{append_assoc, append-nil}
use Rattle.divisors.specs.declared.fraction.Fraction.{Fraction}
use Rattle.notation.specs.Text.{divisor_of, listed}

-- the divisors xs, then those of the parts rest
abbrev pub joined : List Fraction → List (List ℕ) → Option (List Fraction)
joined xs rest = option_map (λ (fs : List Fraction). xs ++ fs) (listed (map divisor_of rest))

pub from_none : (rest : List (List ℕ)) → joined [] rest ≡ listed (map divisor_of rest)
from_none rest = go (listed (map divisor_of rest))
  where
    go : (o : Option (List Fraction)) → option_map (λ (fs : List Fraction). [] ++ fs) o ≡ o
    go None = refl
    go (Some fs) = refl

one_more : (xs : List Fraction) (f : Fraction) (o : Option (List Fraction)) →
    option_map (λ (fs : List Fraction). xs ++ fs) (option_map (λ (fs : List Fraction). f ∷ fs) o) ≡ option_map (λ (fs : List Fraction). (xs ++ f ∷ []) ++ fs) o
one_more xs f None = refl
one_more xs f (Some fs) = ap (λ (ys : List Fraction). Some ys) (sym (append_assoc xs (f ∷ []) fs))

module _ {S : Type 0} (steps : S → Option (Bor (List ℕ)) → S → Type 0) (all : Option (List Fraction)) where
  -- the divisors xs and those of the parts that come from s are all of them
  abbrev pub Left : List Fraction → S → Type 0
  Left xs s = (rest : List (List ℕ)) × AlwaysYields steps (λ p. p.now) s rest × (joined xs rest ≡ all)

  module _ (xs : List Fraction) (s t : S) where
    ends : (rest : List (List ℕ)) → AlwaysYields steps (λ p. p.now) s rest → joined xs rest ≡ all → steps s None t → Some xs ≡ all
    ends [] y e h = ap (λ (fs : List Fraction). Some fs) (sym (append-nil xs)) ∙ e
    ends (p ∷ ps) y e h = absurd (y.0 t h)

    pub no_part_left : Left xs s → steps s None t → Some xs ≡ all
    no_part_left l h = ends l.0 l.1 l.2 h

    fails : (rest : List (List ℕ)) (p : Bor (List ℕ)) → AlwaysYields steps (λ p. p.now) s rest → joined xs rest ≡ all → steps s (Some p) t → None ≡ divisor_of p.now → None ≡ all
    fails [] p y e h d = absurd (y p t h)
    fails (q ∷ qs) p y e h d = ap (λ (o : Option Fraction). option_map (λ (fs : List Fraction). xs ++ fs) (listed (o ∷ map divisor_of qs))) (d ∙ ap divisor_of (y.1 p t h).0) ∙ e

    pub no_divisor : (p : Bor (List ℕ)) → Left xs s → steps s (Some p) t → None ≡ divisor_of p.now → None ≡ all
    no_divisor p l h d = fails l.0 p l.1 l.2 h d

    goes : (rest : List (List ℕ)) (p : Bor (List ℕ)) (f : Fraction) → AlwaysYields steps (λ p. p.now) s rest → joined xs rest ≡ all → steps s (Some p) t → Some f ≡ divisor_of p.now → Left (xs ++ f ∷ []) t
    goes [] p f y e h d = absurd (y p t h)
    goes (q ∷ qs) p f y e h d = (
      qs,
      (y.1 p t h).1,
      sym (one_more xs f (listed (map divisor_of qs))) ∙
          (ap (λ (o : Option Fraction). option_map (λ (fs : List Fraction). xs ++ fs) (listed (o ∷ map divisor_of qs))) (d ∙ ap divisor_of (y.1 p t h).0) ∙ e),
    )

    pub next_part : (p : Bor (List ℕ)) (f : Fraction) (ys : List Fraction) → Left xs s → steps s (Some p) t → Some f ≡ divisor_of p.now → ys ≡ xs ++ f ∷ [] → Left ys t
    next_part p f ys l h d e = subst (λ (zs : List Fraction). Left zs t) (sym e) (goes l.0 p f l.1 l.2 h d)
