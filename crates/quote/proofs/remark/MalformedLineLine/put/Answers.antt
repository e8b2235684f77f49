use Rattle.texts.specs.Laws.Writes.{put_then}
use Rattle.quote.proofs.remark.MalformedLineLine.put.Goals as goal

pub returns-clause-put : goal.returns-clause-put
returns-clause-put c = put_then c.bytes.ensures (put_then c.decimal.ensures.put c.bytes-2.ensures)
