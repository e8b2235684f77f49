use Rattle.std.proofs.Common.{rules, ◌<◌, false, length, get_or}
use Rattle.std.proofs.lemmas.Fmt.{hex_byte}
use Rattle.std.proofs.Output.{has_written_append, has_written_of_eq}
use Rattle.cases.proofs.Hexes.{one_byte_more}
use Rattle.cases.proofs.told.HexDisplay.fmt.Goals as goal

pub loop-b-preserved : goal.loop-b-preserved
loop-b-preserved g c p =
    let xs = c.args.self.now.0.now in
    let i = c.loop-b.b-index in
    let below : i < length xs = c.loop-b-test.true in
    let small : get_or xs i 0 < 256 = search rules in
    let w = rw (c.laid_out.ensures, c.in_radix.ensures, hex_byte false (get_or xs i 0) small) at c.in_ok-write.ensures.writes in
    has_written_of_eq _ _ _ _ _ (one_byte_more xs i below) (has_written_append _ _ _ _ _ _ (c.loop-b.invariant p) (search rules))
