use Rattle.std.proofs.Common.{◌≡◌, ◌<◌, ◌≤◌, true, length, is_some, slice_get, unwrap_or, refl, ap, ◌∙◌, arith}
use Rattle.list.specs.Held.{held_of, lines_of}
use Rattle.notation.specs.Laws.Numbered.{nothing_yet}
use Rattle.quote.specs.Quotation.{lines_text, numbered_line}
use Rattle.quote.proofs.Listing.{is_there, line_written, one_at, lines_written, read_lines}
use Rattle.quote.proofs.lists.write_lines.Goals.{then-line+in_ok-write_line, else-line}
use Rattle.quote.proofs.lists.write_lines.Goals as goal

pub loop-n-init : goal.loop-n-init
loop-n-init g c =
    let text = g.L.Line.text in
    let shown = lines_of g.L.Leaf.kind c.args.list.now in
    record {
      held = c.count-count.ensures.held;
      read = c.count-count.ensures.read;
      written = nothing_yet (numbered_line c.args.kind.now text) (lines_text c.args.kind.now text shown) (g.W.Write.contents c.args.out.now) 1 shown refl;
    }

pub loop-n-preserved : goal.loop-n-preserved
loop-n-preserved g c =
    let k = g.L.Leaf.kind in
    let text = g.L.Line.text in
    let kind = c.args.kind.now in
    let shown = lines_of k c.args.list.now in
    let n = c.loop-n.n in
    let now : lines_of k c.loop-n.list ≡ shown = read_lines k c.loop-n.list c.loop-n.invariant.read ∙ c.loop-n.invariant.held in
    let held : held_of c.line.new.self ≡ shown = c.line.ensures.held ∙ now in
    let many : c.count-count.result ≡ length shown = c.count-count.ensures.answer in
    let below : n < length shown = let t = c.loop-n-test.true in omega arith in
    record {
      held = held;
      read = c.line.ensures.read;
      written = elim c.if-line.branch [
        | then-line+in_ok-write_line w ↦ rw w.out-is (line_written (numbered_line kind text) (lines_text kind text shown) (g.W.Write.contents c.args.out.now)
            (g.W.Write.contents c.loop-n.out) (g.W.Write.contents w.write_line.new.out) n shown c.line.new.place c.loop-n.place c.loop-n.invariant.written below
            (c.line.ensures.filled ∙ (ap (λ h. unwrap_or (slice_get h n) c.loop-n.place) now ∙ one_at shown n c.loop-n.place)) w.in_ok-write_line.ensures)
        | else-line w ↦
            let yes : is_some (slice_get (lines_of k c.loop-n.list) n) ≡ true = ap (λ h. is_some (slice_get h n)) now ∙ is_there shown n below in
            let a = c.line.ensures.answer in
            let b = w.if-line.false in
            cc
      ];
    }

pub returns-clause-written : goal.returns-clause-written
returns-clause-written g c =
    let text = g.L.Line.text in
    let kind = c.args.kind.now in
    let shown = lines_of g.L.Leaf.kind c.args.list.now in
    let many : c.count-count.result ≡ length shown = c.count-count.ensures.answer in
    let past : length shown ≤ c.loop-n.n = let t = c.loop-n-test.false in omega arith in
    lines_written (numbered_line kind text) (lines_text kind text shown) (g.W.Write.contents c.args.out.now) (g.W.Write.contents c.loop-n.out) c.loop-n.n shown c.loop-n.invariant.written past
