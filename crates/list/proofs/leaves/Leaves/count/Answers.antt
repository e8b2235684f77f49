use Rattle.std.proofs.Common.{refl}
use Rattle.list.specs.Runs.Call.{count}
use Rattle.list.proofs.Steps.{sound_read, leads_read, read_promised}
use Rattle.list.proofs.leaves.Leaves.count.Goals as goal

pub returns-clause-sound : goal.returns-clause-sound
returns-clause-sound g c = sound_read g.L.Leaf.kind g.met.L.Leaf.lawfully c.args.self.now c.settle.new.self c.settle.ensures.table.places c.settle.ensures.held

pub returns-clause-run : goal.returns-clause-run
returns-clause-run g c = leads_read g.L.Leaf.kind g.met.L.Leaf.lawfully c.args.self.now c.settle.new.self c.settle.ensures.table.places c.settle.ensures.held count (λ n h. refl) tt

pub returns-clause-promises : goal.returns-clause-promises
returns-clause-promises g c = read_promised g.L.Leaf.kind g.met.L.Leaf.lawfully c.args.self.now c.settle.new.self c.settle.ensures.table.places c.settle.ensures.held
