use Rattle.std.proofs.Common.{List, sym, subst}
use Rattle.std.proofs.lemmas.Bool.{and_from}
use Rattle.divisors.specs.declared.fraction.Fraction.{Fraction}
use Rattle.divisors.specs.Folding.{FoldsTo}
use Rattle.divisors.specs.Rows.{fractions, held, padded}
use Rattle.divisors.specs.Settled.{settled}
use Rattle.divisors.specs.Written.{over_integers}
use Rattle.divisors.specs.Lawful.{worked_folds}
use Rattle.divisors.specs.Lemmas.Makes.{fold_of_lem, fold_settles}
use Rattle.divisors.proofs.Single.{folds_short}
use Rattle.divisors.proofs.written.folded_row.Goals as goal

pub returns-in-Some : goal.returns-in-Some
returns-in-Some c =
    let ws = c.args.ws.now in
    let r = c.in-Some.row in
    let steps = subst (λ (ys : List Fraction). FoldsTo ys (fractions r)) c.in-Some.ensures.row (folds_short (fractions r) c.in-Some.ensures.few) in
    let folds = fold_of_lem ws (fractions r) c.requires.0 steps in
    record { folds = folds; kept = and_from (padded r) (settled (fractions r)) c.in-Some.ensures.padded (fold_settles ws (fractions r) c.requires.0 folds); worked = worked_folds }

pub returns : goal.returns
returns c =
    let ws = c.args.ws.now in
    let r = c.row.result in
    let steps : FoldsTo (over_integers ws) (fractions r) =
    subst (λ (ys : List Fraction). FoldsTo (over_integers ws) ys) (sym c.row.ensures.row)
    (subst (λ (xs : List Fraction). FoldsTo xs (held c.fold.new.self)) c.of_written-work.ensures.row c.fold.ensures.folds) in
    let folds = fold_of_lem ws (fractions r) c.requires.0 steps in
    record { folds = folds; kept = and_from (padded r) (settled (fractions r)) c.row.ensures.padded (fold_settles ws (fractions r) c.requires.0 folds); worked = worked_folds }
