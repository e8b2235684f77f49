use Rattle.texts.specs.Laws.Writes.{put_then}
use Rattle.texts.proofs.refusals.put_place.Goals as goal

pub returns-in-Some-clause-put : goal.returns-in-Some-clause-put
returns-in-Some-clause-put c = rw c.in-Some.is (put_then c.bytes.ensures c.decimal.ensures.put)
