use Rattle.list.specs.Runs.Call.{insert}
use Rattle.list.proofs.Steps.{insert_placed, sound_next, leads_next}
use Rattle.list.proofs.leaves.Leaves.insert.Goals as goal

pub returns-clause-place : goal.returns-clause-place
returns-clause-place g c = insert_placed g.L.Leaf.kind g.met.L.Leaf.lawfully c.args.self.now c.accept.new.self c.args.leaf c.accept.ensures.held

pub returns-clause-sound : goal.returns-clause-sound
returns-clause-sound g c = λ s p. sound_next g.L.Leaf.kind g.met.L.Leaf.lawfully c.args.self.now c.accept.new.self (insert c.args.leaf) c.accept.ensures.table.places c.accept.ensures.held tt c.accept.ensures.read p s

pub returns-clause-run : goal.returns-clause-run
returns-clause-run g c = λ p. leads_next g.L.Leaf.kind g.met.L.Leaf.lawfully c.args.self.now c.accept.new.self (insert c.args.leaf) c.accept.ensures.table.places c.accept.ensures.held tt c.accept.ensures.read p
