use Rattle.std.proofs.Common.{◌≡◌, ◌≤◌, ◌++◌, take, vec_capacity, vec_items}
use Rattle.texts.specs.Text.{together}
use Rattle.texts.proofs.lines.append_lines.Given as goal

-- the lines so far
abbrev pub invariant-loop-line : goal.invariant-loop-line
invariant-loop-line g l = record {
  written : vec_items l.out ≡ vec_items l.initial.out ++ together g.L.Line.text (take l.line-index l.lines);
  room : vec_capacity l.initial.out ≤ vec_capacity l.out;
}
