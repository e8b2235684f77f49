use Rattle.std.proofs.Common.{◌≡◌, ◌≤◌, length}
use Rattle.leaf.specs.Kind.{covers}
use Rattle.list.specs.Lists.{kept}
use Rattle.list.proofs.Drops.{dropping}
use Rattle.list.proofs.dropping.drop_covered.Given as goal

abbrev pub invariant-loop-r : goal.invariant-loop-r
invariant-loop-r g l =
    let k = covers g.L.Leaf.kind in
    (l.w ≤ l.r) × (length l.lines ≡ length l.initial.lines) × (dropping k l.lines l.w l.r ≡ kept k l.initial.lines)
