use Rattle.std.proofs.Common.{rules, ◌≡◌, unsigned_abs}
use Rattle.std.proofs.lemmas.Iterator.{YieldsList-from_slice}
use Rattle.std.proofs.lemmas.Iterator.Search.{all_from_yields_List}
use borrow.Author.Tests.{tests}
use Rattle.divisors.specs.Rows.{fractions}
use Rattle.divisors.specs.Fractions.{is_multiple}
use Rattle.divisors.specs.Lists.{every}
use Rattle.divisors.specs.Lemmas.Tests.{admits_as}
use Rattle.divisors.proofs.row.Row.divide.Goals as goal

pub returns-clause-means : goal.returns-clause-means
returns-clause-means c =
    let xs = c.fractions.result.now in
    let value : c.all.result ≡ every (is_multiple (unsigned_abs c.args.v)) xs = all_from_yields_List (is_multiple (unsigned_abs c.args.v)) _ _ c.all.result c.all.ensures.ran (YieldsList-from_slice xs c.iter.ensures.rest) (λ x b q k. search (rules, tests)) in
    admits_as (fractions c.args.self.now) c.args.v _ (search rules)
