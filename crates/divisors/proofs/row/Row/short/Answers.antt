use Rattle.std.proofs.Common.{sym, ap, ◌∙◌, arith}
use Rattle.divisors.specs.Lists.{tidy_of}
use Rattle.divisors.specs.Written.{lowest_above}
use Rattle.divisors.proofs.Single.{no_item, tidy_none}
use Rattle.divisors.proofs.row.Row.short.Goals as goal

pub returns-in-empty-clause-row : goal.returns-in-empty-clause-row
returns-in-empty-clause-row c =
    c.empty.ensures.none ∙ (sym tidy_none ∙ ap (λ xs. tidy_of (lowest_above c.args.above xs)) (sym (no_item c.args.ws.now (omega (arith, c.in-empty.len_below)))))
