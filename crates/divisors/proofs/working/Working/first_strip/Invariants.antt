use Rattle.std.proofs.Common.{◌≡◌, ℕ, ◌<◌, length}
use Rattle.divisors.specs.Folding.{Firm}
use Rattle.divisors.proofs.working.Working.first_strip.Given as goal

abbrev pub invariant-loop-by : goal.invariant-loop-by
invariant-loop-by l = (k : ℕ) → k < l.by → (l.at ≡ k → ⊥) → Firm l.list l.at k

abbrev pub invariant-loop-at : goal.invariant-loop-at
invariant-loop-at l = (i k : ℕ) → i < l.at → k < length l.list → (i ≡ k → ⊥) → Firm l.list i k
