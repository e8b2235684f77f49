use Rattle.std.proofs.Common.{rules, arith}
use Rattle.texts.proofs.Appending.{written_front}
use Rattle.texts.proofs.lines.append_line.Goals as goal

pub returns : goal.returns
returns g c = let front = written_front _ _ _ _ c.put.ensures.put.wrote (omega (arith, c.put.ensures.short)) in search rules
