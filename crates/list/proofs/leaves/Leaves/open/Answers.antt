use Rattle.list.proofs.Running.{promises}
use Rattle.list.proofs.Steps.{free_unseen}
use Rattle.list.proofs.leaves.Leaves.open.Goals as goal

pub returns-clause-promises : goal.returns-clause-promises
returns-clause-promises g c = promises g.L.Leaf.kind g.met.L.Leaf.lawfully

pub returns-clause-unseen : goal.returns-clause-unseen
returns-clause-unseen g c = free_unseen g.L.Leaf.kind
