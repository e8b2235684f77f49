use Rattle.std.proofs.Common.{◌∙◌, arith}
use Rattle.leaf.specs.Kind.{covers}
use Rattle.list.proofs.Drops.{dropping_drop, dropping_keep}
use Rattle.list.proofs.dropping.drop_covered.Goals as goal
use Rattle.list.proofs.dropping.drop_covered.Goals.{then-not-is_covered, else-not-is_covered}

pub loop-r-preserved : goal.loop-r-preserved
loop-r-preserved g c =
    let k = covers g.L.Leaf.kind in
    let i = c.loop-r.invariant in
    elim c.if-not-is_covered.branch [
      | then-not-is_covered w ↦ rw w.w-is (omega arith, omega arith, rw w.lines-is (dropping_keep k c.loop-r.lines _ _ _ i.0 (omega arith) c.index-lines-r.is _ w.swap.ensures.after w.if-not-is_covered.ensures ∙ i.2))
      | else-not-is_covered w ↦ rw (w.lines-is, w.w-is) (omega arith, i.1, dropping_drop k c.loop-r.lines _ _ _ i.0 (omega arith) c.index-lines-r.is w.if-not-is_covered.ensures ∙ i.2)
    ]
