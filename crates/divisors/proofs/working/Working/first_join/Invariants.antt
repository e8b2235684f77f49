use Rattle.std.proofs.Common.{ℕ, ◌+◌, ◌<◌, length}
use Rattle.divisors.specs.Folding.{Apart}
use Rattle.divisors.proofs.working.Working.first_join.Given as goal

-- no pair of this left with an earlier right has a join
abbrev pub invariant-loop-right : goal.invariant-loop-right
invariant-loop-right l = (k : ℕ) → l.left < k → k < l.left + 1 + length l.yielded → Apart l.list l.left k

-- no pair with an earlier left has a join
abbrev pub invariant-loop-left : goal.invariant-loop-left
invariant-loop-left l = (i k : ℕ) → i < l.left → i < k → k < length l.list → Apart l.list i k
