use Rattle.std.proofs.Common.{rules, ◌≡◌}
use Rattle.std.proofs.lemmas.Iterator.{YieldsList-from_slice}
use Rattle.std.proofs.lemmas.Iterator.Search.{all_from_yields_List}
use borrow.Author.Tests.{tests}
use Rattle.divisors.specs.Rows.{fractions}
use Rattle.divisors.specs.Dividing.{bars_no_more, divides}
use Rattle.divisors.specs.Lists.{some}
use Rattle.divisors.specs.Lemmas.Covers.{divided_as}
use Rattle.divisors.proofs.row.Row.bars_no_more_than.Goals as goal

pub returns-clause-means : goal.returns-clause-means
returns-clause-means c =
    let xs = c.fractions-multiples.result.now in
    let ys = c.fractions-divisors.result.now in
    let value : c.all.result ≡ bars_no_more xs ys = all_from_yields_List (λ x. some (λ y. divides y x) ys) _ _ c.all.result c.all.ensures.ran (YieldsList-from_slice xs c.iter.ensures.rest) (λ x b q k. search (rules, tests)) in
    divided_as (fractions c.args.self.now) (fractions c.args.other.now) _ (search rules)
