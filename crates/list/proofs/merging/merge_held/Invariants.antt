use Rattle.std.proofs.Common.{◌≡◌, ◌<◌, length}
use Rattle.leaf.specs.Kind.{touches}
use Rattle.list.proofs.Merges.{Merging}
use Rattle.list.proofs.merging.merge_held.Given as goal

abbrev pub invariant-loop-r : goal.invariant-loop-r
invariant-loop-r g l =
    (l.w < l.r) × (length l.held ≡ length l.initial.held) × Merging (touches g.L.Leaf.kind) g.L.Leaf.kind.join l.initial.held l.held l.w l.r
