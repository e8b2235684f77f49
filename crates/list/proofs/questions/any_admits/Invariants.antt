use Rattle.std.proofs.Common.{◌≡◌, false, take}
use Rattle.leaf.specs.Kind.{admits}
use Rattle.list.specs.Lists.{any}
use Rattle.list.proofs.questions.any_admits.Given as goal

abbrev pub invariant-loop-leaf : goal.invariant-loop-leaf
invariant-loop-leaf g l = any (λ x. admits g.L.Leaf.kind x l.v) (take l.leaf-index l.held) ≡ false
