use Rattle.std.proofs.Common.{rules}
use Rattle.divisors.specs.Rows.{fractions}
use Rattle.divisors.specs.Written.{FoldOf, ThinOf}
use Rattle.amounts.specs.Makes.{made_leaf}
use Rattle.amounts.proofs.amount_leaf.leaf_of.Goals as goal

pub returns : goal.returns
returns c =
    let ws = c.args.required.now in
    let us = c.args.barred.now in
    let folds : FoldOf ws (fractions c.row.result) = search rules in
    let thins : ThinOf us (fractions c.row-2.result) = search rules in
    made_leaf c.args.bounds.minimum c.args.bounds.maximum ws us c.row.result c.row-2.result folds thins c.row.ensures.folded c.row-2.ensures.thinned
