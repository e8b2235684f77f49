use Rattle.std.proofs.Common.{ℕ, [], ◌∷◌, length, ap, ◌∙◌, subst, rules}
use Rattle.list.specs.Runs.{Promised}
use Rattle.list.specs.Held.{held_of}
use Rattle.list.specs.Runs.Call.{insert, sheet}
use Rattle.client.proofs.lines_of.Goals as goal

pub returns : goal.returns
returns g c = λ p.
    let k = g.L.Leaf.kind in
    let cs = insert c.args.leaf ∷ sheet c.args.bytes.now ∷ [] in
    let run = c.sheet.ensures.run _ (c.insert.ensures.run p _ c.open-list.ensures.run) in
    let n = c.sheet.ensures.table.places ∙ c.insert.ensures.table.places ∙ ap length c.open-list.ensures.table.1 in
    let l = subst (λ (i : ℕ). Promised k i cs (held_of c.count.new.self)) n (c.count.ensures.promises cs run) in
    subst (Promised k (length c.args.table.now) cs) (search rules) l
