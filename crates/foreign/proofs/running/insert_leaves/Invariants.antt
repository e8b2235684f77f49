use Rattle.list.specs.Held.{SameTable}
use Rattle.foreign.proofs.Inserting.{Inserted}
use Rattle.foreign.proofs.running.insert_leaves.Given as goal

abbrev pub invariant-loop-leaf : goal.invariant-loop-leaf
invariant-loop-leaf g l = record {
  table : SameTable l.initial.list l.list;
  run : Inserted g.L.Leaf.kind l.made l.initial.list l.leaf-index l.list;
}
