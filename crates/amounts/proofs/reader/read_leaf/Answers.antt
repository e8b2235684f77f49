use Rattle.std.proofs.Common.{ap, ◌∙◌}
use Rattle.divisors.specs.Written.{refusal_of}
use Rattle.amounts.specs.Laws.Layout.{lists_taken}
use Rattle.amounts.proofs.reader.read_leaf.Goals as goal

pub leaf_of-requires-clause-required : goal.leaf_of-requires-clause-required
leaf_of-requires-clause-required c = ap refusal_of c.fractions.ensures.list ∙ (lists_taken _ _ _ _ c.in_ok-required.ensures.1).0

pub leaf_of-requires-clause-barred : goal.leaf_of-requires-clause-barred
leaf_of-requires-clause-barred c = ap refusal_of c.fractions-2.ensures.list ∙ (lists_taken _ _ _ _ c.in_ok-required.ensures.1).1
