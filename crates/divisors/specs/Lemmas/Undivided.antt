-- The members of a thinned list: those that no other divides.
use Rattle.std.proofs.Common.{◌≡◌, true, not, ◌&&◌, ◌↔◌, Contains, List, ◌∙◌, ap, ⊎_elim}
use Rattle.std.specs.List.{AllByRecursion}
use Rattle.std.proofs.lemmas.Bool.{and_parts, both_ways, cases_Bool, not-true, not_from_false}
use Rattle.divisors.specs.declared.fraction.Fraction.{Fraction}
use Rattle.divisors.specs.Dividing.{divided, divides, thin, thin_of, thinned}
use Rattle.divisors.specs.Fractions.{Reduced, same}
use Rattle.divisors.specs.Lists.{Tidies, are_reduced, ascends, tidy_of}
use Rattle.divisors.specs.Written.{IsUndivided}
use Rattle.divisors.specs.Lemmas.Ascends.{same_self}
use Rattle.divisors.specs.Lemmas.Divides.{divides_is}
use Rattle.divisors.specs.Lemmas.Members.{all_in, contains_in, in_contains, in_kept, in_some, kept_in}
use Rattle.divisors.specs.Lemmas.Thins.{only_itself}
use Rattle.divisors.specs.Lemmas.Tidied.{held, kept, tidies_of}

pub thin_rises : (xs : List Fraction) → thinned (thin_of xs) ≡ true → ascends (thin_of xs) ≡ true
thin_rises xs h =
    let ys = thin_of xs in
    (and_parts (ascends ys) (thin ys) (and_parts (are_reduced ys) (ascends ys && thin ys) h).1).0

pub thin_members : (rs : List Fraction) → AllByRecursion Reduced rs → (x : Fraction) → (Contains (thin_of (tidy_of rs)) x) ↔ IsUndivided rs x
unfolding thin_of
thin_members rs h x = (forth, back)
  where
    xs : List Fraction
    xs = tidy_of rs

    t : Tidies rs xs
    t = tidies_of rs h

    forth : Contains (thin_of xs) x → IsUndivided rs x
    forth c =
        let u = in_kept (λ y. not (divided xs y)) xs x (contains_in x (thin_of xs) c) in
        let i = kept rs xs t x u.0 in
        record {
          member = in_contains x rs i;
          undivided = λ y m d.
              let j = contains_in y rs m in
              only_itself xs y x (held rs xs t y j) (not-true (divided xs x) u.1) ((divides_is y x (all_in Reduced rs h y j) (all_in Reduced rs h x i)).1 d);
        }

    none : IsUndivided rs x → divided xs x ≡ true → ⊥
    none u e =
        let w = in_some (λ y. divides y x && not (same y x)) xs e in
        let p = and_parts (divides w.0 x) (not (same w.0 x)) w.2 in
        let j = kept rs xs t w.0 w.1 in
        let d = (divides_is w.0 x (all_in Reduced rs h w.0 j) (all_in Reduced rs h x (contains_in x rs u.member))).0 p.0 in
        let q = u.undivided w.0 (in_contains w.0 rs j) d in
        both_ways (same w.0 x) (not-true (same w.0 x) p.1) (ap (λ (y : Fraction). same y x) q ∙ same_self x)

    back : IsUndivided rs x → Contains (thin_of xs) x
    back u =
        let i = held rs xs t x (contains_in x rs u.member) in
        let f = ⊎_elim (λ e. absurd (none u e)) (λ e. e) (cases_Bool (divided xs x)) in
        in_contains x (thin_of xs) (kept_in (λ y. not (divided xs y)) xs x i (not_from_false (divided xs x) f))
