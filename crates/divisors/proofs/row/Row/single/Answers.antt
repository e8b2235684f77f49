use Rattle.std.proofs.Common.{◌∙◌, arith}
use Rattle.divisors.proofs.Single.{single_above, single_below}
use Rattle.divisors.proofs.row.Row.single.Goals as goal

pub returns-then-f-above-clause-row : goal.returns-then-f-above-clause-row
returns-then-f-above-clause-row c =
    c.empty.ensures.none ∙ single_below c.args.w c.lowest_terms-f.result c.args.above c.lowest_terms-f.ensures.value c.if-f-above.true

pub returns-clause-row : goal.returns-clause-row
returns-clause-row c =
    single_above c.args.w c.lowest_terms-f.result c.args.above c.lowest_terms-f.ensures.value (omega arith)
