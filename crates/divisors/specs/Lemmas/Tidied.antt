-- A list made ascending: what holds of its members, and that there is one such list.
use Rattle.std.proofs.Common.{◌≡◌, List}
use Rattle.std.specs.List.{AllByRecursion}
use Rattle.divisors.specs.declared.fraction.Fraction.{Fraction}
use Rattle.divisors.specs.Fractions.{Reduced}
use Rattle.divisors.specs.Lists.{Tidies, tidy_of}
use Rattle.divisors.specs.Lemmas.Ascends.{Lower, ascends_pairs, tidy_ascends}
use Rattle.divisors.specs.Lemmas.Lower.{lower_asym, lower_irr}
use Rattle.divisors.specs.Lemmas.Members.{In, all_in, contains_in, in_all, in_contains, pairs_unique}
use Rattle.divisors.specs.Lemmas.Tidies.{tidy_in, tidy_out}

-- the computed list is one
pub tidies_of : (xs : List Fraction) → AllByRecursion Reduced xs → Tidies xs (tidy_of xs)
tidies_of xs h = record {
  rising = tidy_ascends xs h;
  members = λ x. (
    λ c. in_contains x xs (all_in (λ y. In y xs) (tidy_of xs) (tidy_in (λ y. In y xs) xs (in_all (λ y. In y xs) xs (λ y i. i))) x (contains_in x (tidy_of xs) c)),
    λ c. in_contains x (tidy_of xs) (all_in (λ y. In y (tidy_of xs)) xs (tidy_out (λ y. In y (tidy_of xs)) xs (in_all (λ y. In y (tidy_of xs)) (tidy_of xs) (λ y i. i))) x (contains_in x xs c)),
  );
}

module _ (xs ys : List Fraction) (t : Tidies xs ys) where
  pub kept : (x : Fraction) → In x ys → In x xs
  kept x i = contains_in x xs ((t.members x).0 (in_contains x ys i))

  pub held : (x : Fraction) → In x xs → In x ys
  held x i = contains_in x ys ((t.members x).1 (in_contains x xs i))

  -- what holds of each before holds of each afterwards, and the other way round
  pub all_tidied : (P : Fraction → Type 0) → AllByRecursion P xs → AllByRecursion P ys
  all_tidied P h = in_all P ys (λ x i. all_in P xs h x (kept x i))

  pub all_untidied : (P : Fraction → Type 0) → AllByRecursion P ys → AllByRecursion P xs
  all_untidied P h = in_all P xs (λ x i. all_in P ys h x (held x i))

-- there is only one
pub tidied_is : (xs ys : List Fraction) → AllByRecursion Reduced xs → Tidies xs ys → ys ≡ tidy_of xs
tidied_is xs ys h t =
    let u = tidies_of xs h in
    let zs = tidy_of xs in
    pairs_unique Lower lower_irr lower_asym ys zs
    (ascends_pairs ys (all_tidied xs ys t Reduced h) t.rising)
    (ascends_pairs zs (all_tidied xs zs u Reduced h) u.rising)
    (λ x i. held xs zs u x (kept xs ys t x i))
    (λ x i. held xs ys t x (kept xs zs u x i))
