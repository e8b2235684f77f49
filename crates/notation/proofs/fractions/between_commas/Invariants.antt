use Rattle.std.proofs.Common.{map, vec_items}
use Rattle.notation.specs.Text.{divisor_of, listed, pieces}
use Rattle.notation.proofs.Parts.{Left}
use Rattle.notation.proofs.fractions.between_commas.Given as goal

-- the divisors so far, then those of the parts that are left
abbrev pub invariant-loop-part : goal.invariant-loop-part
invariant-loop-part l = record {
  can : (goal.iterator-loop-part).can_next l.part-iterator;
  ends : (goal.iterator-loop-part).is_finite l.part-iterator;
  left : Left (goal.iterator-loop-part).next_gives (listed (map divisor_of (pieces 44 l.text))) (vec_items l.list) l.part-iterator;
}
