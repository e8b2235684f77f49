use Rattle.std.proofs.Common.{◌∙◌, rules}
use Rattle.foreign.proofs.Makes.{made_all, made_more}
use Rattle.foreign.proofs.running.read_leaves.Goals as goal

pub returns-in-Err-clause-made : goal.returns-in-Err-clause-made
returns-in-Err-clause-made g c =
    let l = c.loop-n in
    made_all g.L.Leaf.kind c.args.bytes.now _ l.n l.at l.table _ c.read.new.place c.loop-n-test.true _ c.in-Err.ensures.reads ∙ l.invariant.1

pub loop-n-preserved : goal.loop-n-preserved
loop-n-preserved g c =
    let l = c.loop-n in
    (search (rules, l.invariant.0), made_more g.L.Leaf.kind c.args.bytes.now _ l.n l.at l.table _ c.read.new.place c.loop-n-test.true c.in-Ok.end l.invariant.0 c.in-Ok.ensures.reads ∙ l.invariant.1)
