use Rattle.std.proofs.Common.{flat_map, take}
use Rattle.std.specs.Fmt.{HasWritten, IsPlainFormatter}
use Rattle.cases.specs.Texts.{byte_text}
use Rattle.cases.proofs.told.HexDisplay.fmt.Given as goal

-- the bytes passed so far
abbrev pub invariant-loop-b : goal.invariant-loop-b
invariant-loop-b g l = IsPlainFormatter l.initial.f → HasWritten g.W.Write.write_str_gives l.initial.f (flat_map byte_text (take l.b-index l.self.0.now)) l.f
