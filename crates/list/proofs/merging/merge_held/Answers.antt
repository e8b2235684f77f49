use Rattle.std.proofs.Common.{◌<◌, length, arith, rules}
use Rattle.leaf.specs.Kind.{touches}
use Rattle.list.proofs.Merges.{merging_all}
use Rattle.list.proofs.merging.merge_held.Goals as goal

pub returns-clause-lines : goal.returns-clause-lines
returns-clause-lines g c =
    let i = c.loop-r.invariant in
    let some : 0 < length c.args.held.now = search rules in
    merging_all (touches g.L.Leaf.kind) g.L.Leaf.kind.join c.args.held.now c.loop-r.held _ _ i.2 (omega (arith, some)) (omega (arith, i.1))
