use Rattle.std.proofs.Common.{flat_map, take}
use Rattle.std.specs.Fmt.{HasWritten, IsPlainFormatter}
use Rattle.fold.specs.Texts.{more_text}
use Rattle.fold.proofs.report.ListedDisplay.fmt.Given as goal

-- behind the first, those passed so far
abbrev pub invariant-loop-fraction : goal.invariant-loop-fraction
invariant-loop-fraction g l = IsPlainFormatter l.initial.f → HasWritten g.W.Write.write_str_gives l.initial.f (flat_map more_text (take l.fraction-index l.rest)) l.f
