use Rattle.std.proofs.Common.{◌≡◌}
use Rattle.divisors.specs.Dividing.{divides}
use Rattle.divisors.specs.Lists.{some}
use Rattle.divisors.proofs.row.fn.Row.divide_all.all.Given as goal

abbrev pub ensures : goal.ensures
ensures l r = r ≡ some (λ y. divides l.f.entry.now y) l.multiples.entry.now
