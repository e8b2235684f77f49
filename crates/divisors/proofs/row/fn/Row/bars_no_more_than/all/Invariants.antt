use Rattle.std.proofs.Common.{◌≡◌}
use Rattle.divisors.specs.Dividing.{divides}
use Rattle.divisors.specs.Lists.{some}
use Rattle.divisors.proofs.row.fn.Row.bars_no_more_than.all.Given as goal

abbrev pub ensures : goal.ensures
ensures l r = r ≡ some (λ y. divides y l.f.entry.now) l.divisors.entry.now
