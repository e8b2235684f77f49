use Rattle.std.proofs.Common.{◌≡◌, drop, length}
use Rattle.divisors.specs.Lists.{at_most}
use Rattle.divisors.proofs.row.Row.is_at_most.Given as goal

-- the lists from here on decide
abbrev pub invariant-loop-f : goal.invariant-loop-f
invariant-loop-f l = at_most (drop (length l.yielded) l.mine) (drop (length l.yielded) l.others) ≡ at_most l.mine l.others
