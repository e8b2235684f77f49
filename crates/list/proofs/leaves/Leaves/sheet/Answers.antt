use Rattle.std.proofs.Common.{ap, ◌&&◌, ◌==◌, ◌∙◌}
use Rattle.leaf.specs.Laws.Slices.{bytes_held}
use Rattle.list.specs.Held.{held_of, places_of}
use Rattle.list.specs.Runs.Call.{sheet}
use Rattle.list.proofs.Encoded.{written_sheets}
use Rattle.list.proofs.Steps.{sound_next, leads_next}
use Rattle.list.proofs.Taking.{takes_sheet}
use Rattle.list.proofs.leaves.Leaves.sheet.Goals as goal

pub returns-clause-takes : goal.returns-clause-takes
returns-clause-takes g c =
    let l = c.args.self.now in
    let bytes = c.args.bytes.now in
    takes_sheet g.L.Leaf.kind g.met.L.Leaf.lawfully (places_of l) bytes (held_of l) (bytes_held bytes c.type_inv.bytes) _ _ (held_of c.feed.new.self) c.err-answer.ensures.value c.feed.ensures.answer c.feed.ensures.held

pub returns-clause-read : goal.returns-clause-read
returns-clause-read g c = c.feed.ensures.flag ∙ ap (λ n. (n == 0) && c.args.self.now.canonical) c.feed.ensures.answer.accepted

pub returns-clause-written : goal.returns-clause-written
returns-clause-written g c = written_sheets g.L.Leaf.kind g.met.L.Leaf.lawfully

pub returns-clause-sound : goal.returns-clause-sound
returns-clause-sound g c = sound_next g.L.Leaf.kind g.met.L.Leaf.lawfully c.args.self.now c.feed.new.self (sheet c.args.bytes.now) c.feed.ensures.table.places c.feed.ensures.held tt (returns-clause-read g c) tt

pub returns-clause-run : goal.returns-clause-run
returns-clause-run g c = leads_next g.L.Leaf.kind g.met.L.Leaf.lawfully c.args.self.now c.feed.new.self (sheet c.args.bytes.now) c.feed.ensures.table.places c.feed.ensures.held tt (returns-clause-read g c) tt
