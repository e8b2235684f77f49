use Rattle.std.proofs.Common.{List, subst}
use Rattle.divisors.specs.declared.fraction.Fraction.{Fraction}
use Rattle.divisors.specs.Lists.{Tidies, are_reduced, tidy_of}
use Rattle.divisors.specs.Rows.{held}
use Rattle.divisors.proofs.Steps.{all_put, tidied}
use Rattle.divisors.proofs.working.Working.tidy.Goals as goal
use Rattle.std.proofs.Common.{◌≡◌, true, sym}

pub returns-clause-tidies : goal.returns-clause-tidies
returns-clause-tidies c =
    let all = c.as_slice-all.result.now in
    let ys = held c.loop-f.tidied in
    let put = all_put all ys (tidy_of all) c.loop-f.f-index c.loop-f-test.false c.loop-f.invariant.1 in
    let row = c.as_slice-all.ensures.row in
    subst (λ (xs : List Fraction). Tidies xs ys) row (tidied all ys put (subst (λ (xs : List Fraction). are_reduced xs ≡ true) (sym row) c.requires.reduced))
