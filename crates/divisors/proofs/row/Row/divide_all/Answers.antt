use Rattle.std.proofs.Common.{rules, ◌≡◌}
use Rattle.std.proofs.lemmas.Iterator.{YieldsList-from_slice}
use Rattle.std.proofs.lemmas.Iterator.Search.{all_from_yields_List}
use borrow.Author.Tests.{tests}
use Rattle.divisors.specs.Rows.{fractions}
use Rattle.divisors.specs.Dividing.{divide_all, divides}
use Rattle.divisors.specs.Lists.{some}
use Rattle.divisors.specs.Lemmas.Covers.{dividing_as}
use Rattle.divisors.proofs.row.Row.divide_all.Goals as goal

pub returns-clause-means : goal.returns-clause-means
returns-clause-means c =
    let xs = c.fractions-divisors.result.now in
    let ys = c.fractions-multiples.result.now in
    let value : c.all.result ≡ divide_all xs ys = all_from_yields_List (λ x. some (λ y. divides x y) ys) _ _ c.all.result c.all.ensures.ran (YieldsList-from_slice xs c.iter.ensures.rest) (λ x b q k. search (rules, tests)) in
    dividing_as (fractions c.args.self.now) (fractions c.args.other.now) _ (search rules)
