use Rattle.std.proofs.Common.{◌+◌}
use Rattle.divisors.proofs.whole.+order.Given as goal

abbrev pub decreases-order : goal.decreases-order
decreases-order l = l.q + l.s
