use Rattle.std.proofs.Common.{unwrap_or, refl, sym, ap, ◌∙◌, subst}
use Rattle.leaf.specs.Kind.{Lawful}
use Rattle.list.specs.Held.{lines_of}
use Rattle.list.proofs.LawfulLines.{line_lawful, line_stands}
use Rattle.list.specs.Runs.Call.{line}
use Rattle.list.proofs.Steps.{leads_read}
use Rattle.list.proofs.leaves.Leaves.line.Goals as goal

pub returns-then-n-count-clause-run : goal.returns-then-n-count-clause-run
returns-then-n-count-clause-run g c = leads_read g.L.Leaf.kind g.met.L.Leaf.lawfully c.args.self.now c.count.new.self c.count.ensures.table.places c.count.ensures.held (line c.args.n) (λ n h. refl) tt

pub returns-clause-run : goal.returns-clause-run
returns-clause-run g c = leads_read g.L.Leaf.kind g.met.L.Leaf.lawfully c.args.self.now c.count.new.self c.count.ensures.table.places c.count.ensures.held (line c.args.n) (λ n h. refl) tt

pub returns-clause-filled : goal.returns-clause-filled
returns-clause-filled g c =
    let n = c.count.ensures in
    let s = line_stands c.count.new.self.table.now (lines_of g.L.Leaf.kind c.args.self.now) c.count.result c.args.n c.index-self-n.result (n.shown ∙ n.held) n.answer c.if-n-count.false in
    sym (ap (λ o. unwrap_or o c.args.place.now) s.2)

pub returns-clause-lawful : goal.returns-clause-lawful
returns-clause-lawful g c =
    let n = c.count.ensures in
    let lines = lines_of g.L.Leaf.kind c.args.self.now in
    let s = line_stands c.count.new.self.table.now lines c.count.result c.args.n c.index-self-n.result (n.shown ∙ n.held) n.answer c.if-n-count.false in
    λ all _. subst (Lawful g.L.Leaf.kind) s.1 (line_lawful g.L.Leaf.kind g.met.L.Leaf.lawfully c.args.self.now lines c.args.n c.index-self-n.result refl all s.0)
