use Rattle.std.proofs.Common.{refl}
use Rattle.list.specs.Runs.Call.{empty?}
use Rattle.list.proofs.Steps.{leads_ask}
use Rattle.list.proofs.leaves.Leaves.is_empty.Goals as goal

pub returns-clause-run : goal.returns-clause-run
returns-clause-run g c = leads_ask g.L.Leaf.kind g.met.L.Leaf.lawfully c.args.self.now empty? tt (λ n h. refl) (λ s. refl) tt
