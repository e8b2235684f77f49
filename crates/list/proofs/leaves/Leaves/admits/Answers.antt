use Rattle.std.proofs.Common.{refl}
use Rattle.list.specs.Runs.Call.{admits?}
use Rattle.list.proofs.Steps.{leads_ask}
use Rattle.list.proofs.leaves.Leaves.admits.Goals as goal

pub returns-clause-run : goal.returns-clause-run
returns-clause-run g c = leads_ask g.L.Leaf.kind g.met.L.Leaf.lawfully c.args.self.now (admits? c.args.v) tt (λ n h. refl) (λ s. refl) tt
