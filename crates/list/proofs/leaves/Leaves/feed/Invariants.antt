use Rattle.std.proofs.Common.{◌-◌, length}
use Rattle.list.proofs.Feeds.{Feeding}
use Rattle.list.proofs.leaves.Leaves.feed.Given as goal

abbrev pub invariant-loop-answer : goal.invariant-loop-answer
invariant-loop-answer g l = Feeding g.L.Leaf.kind g.met.L.Leaf.lawfully l.bytes l.initial.self l.self l.answer.start l.answer.accepted

abbrev pub decreases-loop-answer : goal.decreases-loop-answer
decreases-loop-answer g l = length l.bytes - l.answer.start
