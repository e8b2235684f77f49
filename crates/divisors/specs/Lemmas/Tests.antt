-- The tests of multiples say what a list admits and what it spares.
use Rattle.std.proofs.Common.{◌≡◌, ◌*◌, ◌%◌, Bool, false, not, ◌↔◌, List, ℤ, Decides, IsTrue, unsigned_abs, sym, ◌∙◌, ⊎_elim}
use Rattle.std.proofs.Math.Nat.{dvd_of_mod-eq-zero, mod-eq-zero_of_dvd}
use Rattle.std.proofs.lemmas.Bool.{both_ways, cases_Bool, eq-eqb, eqb-true, not-true, not_from_false}
use Rattle.divisors.specs.declared.fraction.Fraction.{Fraction}
use Rattle.divisors.specs.Fractions.{MultipleOf, is_multiple}
use Rattle.divisors.specs.Laws.{TestsMean}
use Rattle.divisors.specs.Lists.{every, some}
use Rattle.divisors.specs.Written.{Admits, Spares}
use Rattle.divisors.specs.Lemmas.Members.{all_in, every_in, in_all, in_every, in_some, some_in}
use Rattle.divisors.specs.Lemmas.Signs.{multiple_of}

multiple : (f : Fraction) (v : ℤ) → Decides (is_multiple (unsigned_abs v) f) (MultipleOf f v)
multiple f v =
    let t = multiple_of f v in (
      λ e. t.1 (dvd_of_mod-eq-zero f.p (eqb-true (unsigned_abs v * f.q % f.p) 0 e)),
      λ m. eq-eqb (unsigned_abs v * f.q % f.p) 0 (mod-eq-zero_of_dvd f.p (t.0 m)),
    )

admits : (xs : List Fraction) (v : ℤ) → Decides (every (is_multiple (unsigned_abs v)) xs) (Admits xs v)
admits xs v =
    let n = unsigned_abs v in (
      λ h. in_all (λ f. MultipleOf f v) xs (λ x i. (multiple x v).0 (every_in (is_multiple n) xs h x i)),
      λ m. in_every (is_multiple n) xs (λ x i. (multiple x v).1 (all_in (λ f. MultipleOf f v) xs m x i)),
    )

spares : (xs : List Fraction) (v : ℤ) → Decides (not (some (is_multiple (unsigned_abs v)) xs)) (Spares xs v)
spares xs v =
    let n = unsigned_abs v in
    let t = some (is_multiple n) xs in (
      λ h. in_all (λ f. MultipleOf f v → ⊥) xs (λ x i m. both_ways t (not-true t h) (some_in (is_multiple n) xs x i ((multiple x v).1 m))),
      λ s.
          not_from_false t
          (⊎_elim
          (λ e. let w = in_some (is_multiple n) xs e in absurd (all_in (λ f. MultipleOf f v → ⊥) xs s w.0 w.1 ((multiple w.0 v).0 w.2)))
          (λ f. f) (cases_Bool t)),
    )

pub tests_mean : TestsMean
tests_mean = record { multiple = multiple; admits = admits; spares = spares }

-- an answer that is the test's
pub multiple_as : (f : Fraction) (v : ℤ) (b : Bool) → b ≡ is_multiple (unsigned_abs v) f → (IsTrue b) ↔ MultipleOf f v
multiple_as f v b e = let d = multiple f v in (λ t. d.0 (sym e ∙ t), λ m. e ∙ d.1 m)

pub admits_as : (xs : List Fraction) (v : ℤ) (b : Bool) → b ≡ every (is_multiple (unsigned_abs v)) xs → (IsTrue b) ↔ Admits xs v
admits_as xs v b e = let d = admits xs v in (λ t. d.0 (sym e ∙ t), λ m. e ∙ d.1 m)

pub spares_as : (xs : List Fraction) (v : ℤ) (b : Bool) → b ≡ some (is_multiple (unsigned_abs v)) xs → (b ≡ false) ↔ Spares xs v
spares_as xs v b e =
    let d = spares xs v in
    let t = some (is_multiple (unsigned_abs v)) xs in
    (λ f. d.0 (not_from_false t (sym e ∙ f)), λ s. e ∙ not-true t (d.1 s))
