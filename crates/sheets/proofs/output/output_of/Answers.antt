use Rattle.std.proofs.Common.{◌≡◌, ◌++◌, take, vec_items, rules}
use Rattle.texts.specs.Text.{together}
use Rattle.sheets.proofs.Pieces.{printed}
use Rattle.sheets.proofs.output.output_of.Goals as goal

pub returns : goal.returns
returns g c =
    let taken = c.take_sheet-count.ensures in
    let shown = take c.take_sheet-count.result.count c.take_sheet-count.new.table in
    let written : vec_items c.append_lines.new.out ≡ vec_items c.new-text.result ++ together g.L.Line.text shown = search rules in
    record {
      answer = taken.answer;
      output = printed g.L.Leaf.kind g.L.Line.text _ _ shown _ _ _ _ c.new-text.ensures.items written c.in_ok-append_stop.ensures.ok taken.promised.given taken.answer.fault;
    }
