use Rattle.std.proofs.lemmas.Result.{on_ok_weaker}
use Rattle.quote.specs.Batch.{batch_lines}
use Rattle.quote.proofs.Quoting.{quoted}
use Rattle.quote.proofs.quote.Goals as goal

pub returns : goal.returns
returns g c =
    let contents = g.W.Write.contents in
    let a = c.in_ok-amount_lines in
    let d = c.in_ok-day_lines in
    on_ok_weaker c.write_taken.result
    (quoted (batch_lines c.args.batch.now) c.in_ok-taken.taken c.take_batch.new.amounts c.take_batch.new.days c.in_ok-taken.ensures
    (contents c.args.out.now) (contents c.write_lines.new.out) (contents c.write_lines-2.new.out) (contents c.write_taken.new.out)
    a.amount_lines d.day_lines c.saturating_add.result a.ensures.within d.ensures.within a.ensures.count d.ensures.count c.saturating_add.ensures a.ensures.written d.ensures.written)
    c.write_taken.ensures
