use Rattle.std.proofs.Common.{◌≡◌, length, vec_items}
use Rattle.hex_text.specs.Hex.{hex_of}
use Rattle.hex_text.proofs.Texts.{joined}
use Rattle.hex_text.proofs.read_hex.Given as goal

-- the bytes so far, then those of the rest
abbrev pub invariant-loop-rest : goal.invariant-loop-rest
invariant-loop-rest l = joined (vec_items l.bytes) l.rest ≡ hex_of l.text

abbrev pub decreases-loop-rest : goal.decreases-loop-rest
decreases-loop-rest l = length l.rest
