-- The cover relation of rows.
use Rattle.std.proofs.Common.{◌≡◌, ℕ, Bool, true, List, sym, ◌∙◌, subst}
use Rattle.std.specs.List.{AllByRecursion}
use Rattle.divisors.specs.declared.fraction.Fraction.{Fraction}
use Rattle.divisors.specs.Dividing.{TellsDivided, TellsDividing, bars_no_more, divide_all, divides}
use Rattle.divisors.specs.Fractions.{Multiple, Reduced}
use Rattle.divisors.specs.Lists.{some}
use Rattle.divisors.specs.Lemmas.Lower.{lower_irr, lower_asym}
use Rattle.divisors.specs.Lemmas.Ascends.{Lower}
use Rattle.divisors.specs.Lemmas.Members.{Multiples, NoMultiples, In, Pairs, all_in, contains_in, in_all, in_contains, every_in, in_every, some_in, in_some, pairs_unique}
use Rattle.divisors.specs.Lemmas.Reducing.{all_reduced}
use Rattle.divisors.specs.Lemmas.Divides.{divides_is, divides_refl, divides_trans, divides_anti, divides_multiple}
use Rattle.divisors.specs.Lemmas.Settles.{Clear}

-- each of the first divides one of the second, one by one
pub divide_each : (xs ys : List Fraction) → divide_all xs ys ≡ true → (x : Fraction) → In x xs → (y : Fraction) × In y ys × (divides x y ≡ true)
divide_each xs ys h x i = in_some (λ y. divides x y) ys (every_in (λ z. some (λ y. divides z y) ys) xs h x i)

each_divide : (xs ys : List Fraction) → ((x : Fraction) → In x xs → (y : Fraction) × In y ys × (divides x y ≡ true)) → divide_all xs ys ≡ true
each_divide xs ys f = in_every (λ z. some (λ y. divides z y) ys) xs (λ x i. let w = f x i in some_in (λ y. divides x y) ys w.0 w.1 w.2)

pub bar_each : (xs ys : List Fraction) → bars_no_more xs ys ≡ true → (x : Fraction) → In x xs → (y : Fraction) × In y ys × (divides y x ≡ true)
bar_each xs ys h x i = in_some (λ y. divides y x) ys (every_in (λ z. some (λ y. divides y z) ys) xs h x i)

each_bar : (xs ys : List Fraction) → ((x : Fraction) → In x xs → (y : Fraction) × In y ys × (divides y x ≡ true)) → bars_no_more xs ys ≡ true
each_bar xs ys f = in_every (λ z. some (λ y. divides y z) ys) xs (λ x i. let w = f x i in some_in (λ y. divides y x) ys w.0 w.1 w.2)

pub divide_refl : (xs : List Fraction) → AllByRecursion Reduced xs → divide_all xs xs ≡ true
divide_refl xs h = each_divide xs xs (λ x i. (x, i, divides_refl x (all_in Reduced xs h x i)))

pub bar_refl : (xs : List Fraction) → AllByRecursion Reduced xs → bars_no_more xs xs ≡ true
bar_refl xs h = each_bar xs xs (λ x i. (x, i, divides_refl x (all_in Reduced xs h x i)))

pub divide_trans : (xs ys zs : List Fraction) → AllByRecursion Reduced xs → AllByRecursion Reduced zs → divide_all xs ys ≡ true → divide_all ys zs ≡ true → divide_all xs zs ≡ true
divide_trans xs ys zs a c h i =
    each_divide xs zs
    (λ x j.
    let u = divide_each xs ys h x j in
    let w = divide_each ys zs i u.0 u.1 in
    (w.0, w.1, divides_trans x u.0 w.0 (all_in Reduced xs a x j) (all_in Reduced zs c w.0 w.1) u.2 w.2))

pub bar_trans : (xs ys zs : List Fraction) → AllByRecursion Reduced xs → AllByRecursion Reduced zs → bars_no_more xs ys ≡ true → bars_no_more ys zs ≡ true → bars_no_more xs zs ≡ true
bar_trans xs ys zs a c h i =
    each_bar xs zs
    (λ x j.
    let u = bar_each xs ys h x j in
    let w = bar_each ys zs i u.0 u.1 in
    (w.0, w.1, divides_trans w.0 u.0 x (all_in Reduced zs c w.0 w.1) (all_in Reduced xs a x j) w.2 u.2))

-- a member of one is a member of the other
divide_in : (xs ys : List Fraction) → AllByRecursion Reduced xs → Clear xs → divide_all xs ys ≡ true → divide_all ys xs ≡ true → (x : Fraction) → In x xs → In x ys
divide_in xs ys a c h i x j =
    let u = divide_each xs ys h x j in
    let w = divide_each ys xs i u.0 u.1 in
    let e : x ≡ w.0 = c x w.0 j w.1 (divides_trans x u.0 w.0 (all_in Reduced xs a x j) (all_in Reduced xs a w.0 w.1) u.2 w.2) in
    subst (λ (z : Fraction). In z ys) (sym (divides_anti x u.0 u.2 (subst (λ (z : Fraction). divides u.0 z ≡ true) (sym e) w.2))) u.1

bar_in : (xs ys : List Fraction) → AllByRecursion Reduced xs → Clear xs → bars_no_more xs ys ≡ true → bars_no_more ys xs ≡ true → (x : Fraction) → In x xs → In x ys
bar_in xs ys a c h i x j =
    let u = bar_each xs ys h x j in
    let w = bar_each ys xs i u.0 u.1 in
    let e : w.0 ≡ x = c w.0 x w.1 j (divides_trans w.0 u.0 x (all_in Reduced xs a w.0 w.1) (all_in Reduced xs a x j) w.2 u.2) in
    subst (λ (z : Fraction). In z ys) (sym (divides_anti x u.0 (subst (λ (z : Fraction). divides z u.0 ≡ true) e w.2) u.2)) u.1

-- rows that cover each other are equal
pub divide_anti :
    (xs ys : List Fraction) → AllByRecursion Reduced xs → AllByRecursion Reduced ys → Clear xs → Clear ys → Pairs Lower xs → Pairs Lower ys →
    divide_all xs ys ≡ true → divide_all ys xs ≡ true → xs ≡ ys
divide_anti xs ys a b c d p q h i =
    pairs_unique Lower lower_irr lower_asym xs ys p q (divide_in xs ys a c h i) (divide_in ys xs b d i h)

pub bar_anti :
    (xs ys : List Fraction) → AllByRecursion Reduced xs → AllByRecursion Reduced ys → Clear xs → Clear ys → Pairs Lower xs → Pairs Lower ys →
    bars_no_more xs ys ≡ true → bars_no_more ys xs ≡ true → xs ≡ ys
bar_anti xs ys a b c d p q h i =
    pairs_unique Lower lower_irr lower_asym xs ys p q (bar_in xs ys a c h i) (bar_in ys xs b d i h)

-- what a covered row admits, the covering one admits
pub divide_admits : (xs ys : List Fraction) (v : ℕ) → AllByRecursion Reduced xs → AllByRecursion Reduced ys → divide_all xs ys ≡ true → Multiples ys v → Multiples xs v
divide_admits xs ys v a b h m =
    in_all (λ f. Multiple f v) xs
    (λ x i.
    let u = divide_each xs ys h x i in
    divides_multiple x u.0 v (all_in Reduced xs a x i) (all_in Reduced ys b u.0 u.1) u.2 (all_in (λ f. Multiple f v) ys m u.0 u.1))

pub bar_spares : (xs ys : List Fraction) (v : ℕ) → AllByRecursion Reduced xs → AllByRecursion Reduced ys → bars_no_more xs ys ≡ true → NoMultiples ys v → NoMultiples xs v
bar_spares xs ys v a b h s =
    in_all (λ f. Multiple f v → ⊥) xs
    (λ x i m.
    let u = bar_each xs ys h x i in
    all_in (λ f. Multiple f v → ⊥) ys s u.0 u.1 (divides_multiple u.0 x v (all_in Reduced ys b u.0 u.1) (all_in Reduced xs a x i) u.2 m))

-- the answers of the tests, for reduced lists
pub dividing_as : (xs ys : List Fraction) (b : Bool) → b ≡ divide_all xs ys → TellsDividing xs ys b
dividing_as xs ys b e p q =
    let h = all_reduced xs p in
    let g = all_reduced ys q in (
      λ t x c.
          let i = contains_in x xs c in
          let w = divide_each xs ys (sym e ∙ t) x i in
          (w.0, in_contains w.0 ys w.1, (divides_is x w.0 (all_in Reduced xs h x i) (all_in Reduced ys g w.0 w.1)).0 w.2),
      λ f.
          e ∙
          each_divide xs ys
          (λ x i.
          let w = f x (in_contains x xs i) in
          let j = contains_in w.0 ys w.1 in
          (w.0, j, (divides_is x w.0 (all_in Reduced xs h x i) (all_in Reduced ys g w.0 j)).1 w.2)),
    )

pub divided_as : (xs ys : List Fraction) (b : Bool) → b ≡ bars_no_more xs ys → TellsDivided xs ys b
divided_as xs ys b e p q =
    let h = all_reduced xs p in
    let g = all_reduced ys q in (
      λ t x c.
          let i = contains_in x xs c in
          let w = bar_each xs ys (sym e ∙ t) x i in
          (w.0, in_contains w.0 ys w.1, (divides_is w.0 x (all_in Reduced ys g w.0 w.1) (all_in Reduced xs h x i)).0 w.2),
      λ f.
          e ∙
          each_bar xs ys
          (λ x i.
          let w = f x (in_contains x xs i) in
          let j = contains_in w.0 ys w.1 in
          (w.0, j, (divides_is w.0 x (all_in Reduced ys g w.0 j) (all_in Reduced xs h x i)).1 w.2)),
    )
