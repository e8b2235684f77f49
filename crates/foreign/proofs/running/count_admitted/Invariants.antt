use Rattle.std.proofs.Common.{◌≡◌, ◌≤◌, length, take, filter}
use Rattle.leaf.specs.Kind.{admits}
use Rattle.list.specs.Held.{held_of}
use Rattle.list.specs.Lists.{any}
use Rattle.foreign.proofs.running.count_admitted.Given as goal

abbrev pub invariant-loop-v : goal.invariant-loop-v
invariant-loop-v g l = (l.list ≡ l.initial.list) × (l.yes ≤ l.v-index) × (l.yes ≡ length (filter (λ v. any (λ x. admits g.L.Leaf.kind x v) (held_of l.initial.list)) (take l.v-index l.values)))
