use Rattle.std.proofs.Common.{rules}
use Rattle.list.proofs.Feeds.{feeding_more, feeding_stop}
use Rattle.list.proofs.leaves.Leaves.feed.Goals as goal

pub loop-answer-preserved : goal.loop-answer-preserved
loop-answer-preserved g c =
    let l = c.loop-answer in
    let e = c.in_ok-answer-2.ensures in
    feeding_more g.L.Leaf.kind g.met.L.Leaf.lawfully c.args.bytes.now c.args.self.now l.self l.answer.start l.answer.accepted l.invariant c.loop-answer-test.true c.take_leaf.new.self e.table _ e.flag e.fills

pub returns-in_err-answer-2 : goal.returns-in_err-answer-2
returns-in_err-answer-2 g c =
    let l = c.loop-answer in
    let e = c.in_err-answer-2.ensures in
    let f = feeding_stop g.L.Leaf.kind g.met.L.Leaf.lawfully c.args.bytes.now c.args.self.now l.self l.answer.start l.answer.accepted l.invariant c.loop-answer-test.true c.take_leaf.new.self e.table _ e.flag e.fills in
    record { table = f.table; answer = search (rules, f); held = f.held; flag = f.flag }
