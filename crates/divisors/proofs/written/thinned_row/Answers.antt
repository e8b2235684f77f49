use Rattle.std.proofs.Common.{sym, ap, ◌∙◌}
use Rattle.std.proofs.lemmas.Bool.{and_from}
use Rattle.divisors.specs.Dividing.{thinned, thin_of}
use Rattle.divisors.specs.Rows.{fractions, padded}
use Rattle.divisors.specs.Lemmas.Makes.{thin_of_lem, thin_thins}
use Rattle.divisors.proofs.Single.{thin_short}
use Rattle.divisors.proofs.written.thinned_row.Goals as goal

pub returns-in-Some : goal.returns-in-Some
returns-in-Some c =
    let ws = c.args.ws.now in
    let r = c.in-Some.row in
    let thins = thin_of_lem ws (fractions r) c.requires.0 (sym (thin_short (fractions r) c.in-Some.ensures.few) ∙ ap thin_of c.in-Some.ensures.row) in
    record { thins = thins; kept = and_from (padded r) (thinned (fractions r)) c.in-Some.ensures.padded (thin_thins ws (fractions r) c.requires.0 thins) }

pub returns : goal.returns
returns c =
    let ws = c.args.ws.now in
    let r = c.row.result in
    let thins = thin_of_lem ws (fractions r) c.requires.0 (c.row.ensures.row ∙ (c.thin.ensures.row ∙ ap thin_of c.of_written-work.ensures.row)) in
    record { thins = thins; kept = and_from (padded r) (thinned (fractions r)) c.row.ensures.padded (thin_thins ws (fractions r) c.requires.0 thins) }
