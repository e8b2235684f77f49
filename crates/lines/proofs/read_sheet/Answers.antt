use Rattle.lines.proofs.Fronts.{front_read}
use Rattle.std.proofs.Common.{vec_items}
use Rattle.lines.proofs.read_sheet.Goals as goal

pub returns : goal.returns
returns g c =
    front_read (g.R.Read.remaining c.args.input) (vec_items c.read_to_end.new.buf)
    (rw (c.take.ensures.limit, c.take.ensures.inner, c.new-sheet.ensures.items) at c.in_ok-read_to_end.ensures.bytes)
