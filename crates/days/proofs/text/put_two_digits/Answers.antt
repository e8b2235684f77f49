use Rattle.texts.specs.Laws.Writes.{put_then}
use Rattle.days.proofs.text.put_two_digits.Goals as goal

pub returns : goal.returns
returns c = put_then c.byte.ensures c.byte-2.ensures
