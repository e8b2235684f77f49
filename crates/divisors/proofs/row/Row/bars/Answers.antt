use Rattle.std.proofs.Common.{rules, ◌≡◌, unsigned_abs}
use Rattle.std.proofs.lemmas.Iterator.{YieldsList-from_slice}
use Rattle.std.proofs.lemmas.Iterator.Search.{any_from_yields_List}
use borrow.Author.Tests.{tests}
use Rattle.divisors.specs.Rows.{fractions}
use Rattle.divisors.specs.Fractions.{is_multiple}
use Rattle.divisors.specs.Lists.{some}
use Rattle.divisors.specs.Lemmas.Tests.{spares_as}
use Rattle.divisors.proofs.row.Row.bars.Goals as goal

pub returns-clause-means : goal.returns-clause-means
returns-clause-means c =
    let xs = c.fractions.result.now in
    let value : c.any.result ≡ some (is_multiple (unsigned_abs c.args.v)) xs = any_from_yields_List (is_multiple (unsigned_abs c.args.v)) _ _ c.any.result c.any.ensures.ran (YieldsList-from_slice xs c.iter.ensures.rest) (λ x b q k. search (rules, tests)) in
    spares_as (fractions c.args.self.now) c.args.v _ (search rules)
