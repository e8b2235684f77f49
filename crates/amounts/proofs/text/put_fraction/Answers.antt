use Rattle.texts.specs.Laws.Writes.{put_then}
use Rattle.amounts.proofs.Writes.{part_text}
use Rattle.amounts.proofs.text.put_fraction.Goals as goal

pub returns-then-f-ne1-clause-put : goal.returns-then-f-ne1-clause-put
returns-then-f-ne1-clause-put c = rw (part_text c.args.f c.if-f-ne1.true) (put_then c.decimal.ensures.put (put_then c.byte.ensures c.decimal-then-f-ne1.ensures.put))
