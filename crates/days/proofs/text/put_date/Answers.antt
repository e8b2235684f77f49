use Rattle.texts.specs.Laws.Writes.{put_then}
use Rattle.days.proofs.text.put_date.Goals as goal

pub returns : goal.returns
returns c =
    put_then c.put_two_digits.ensures
    (put_then c.put_two_digits-2.ensures (put_then c.byte.ensures (put_then c.put_two_digits-3.ensures (put_then c.byte-2.ensures c.put_two_digits-4.ensures))))
