use Rattle.std.proofs.Common.{◌≡◌, ◌++◌, ◌-◌, length, take}
use Rattle.foreign.specs.Running.{made_of}
use Rattle.foreign.proofs.running.read_leaves.Given as goal

abbrev pub invariant-loop-n : goal.invariant-loop-n
invariant-loop-n g l =
    (length l.table ≡ length l.initial.table) ×
    (take l.n l.table ++ made_of g.L.Leaf.kind (length l.initial.table - l.n) l.bytes l.at ≡ made_of g.L.Leaf.kind (length l.initial.table) l.bytes 0)
