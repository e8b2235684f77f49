use Rattle.std.proofs.Common.{◌≡◌, ◌+◌, true, drop}
use Rattle.list.specs.Held.{held_of, lines_of}
use Rattle.notation.specs.Laws.Numbered.{Writes}
use Rattle.quote.specs.Quotation.{lines_text, numbered_line}
use Rattle.quote.proofs.lists.write_lines.Given as goal

-- what is held is the lines, and those from number n on are left to write
abbrev pub invariant-loop-n : goal.invariant-loop-n
invariant-loop-n g l =
    let shown = lines_of g.L.Leaf.kind l.fn.list in
    let text = g.L.Line.text in
    record {
      held : held_of l.list ≡ shown;
      read : l.list.canonical ≡ true;
      written : Writes (numbered_line l.kind text) (lines_text l.kind text shown) (g.W.Write.contents l.fn.out) (g.W.Write.contents l.out) (l.n + 1) (drop l.n shown);
    }
