use Rattle.std.proofs.Common.{length}
use Rattle.amounts.proofs.text.+put_more.Given as goal

abbrev pub decreases-put_more : goal.decreases-put_more
decreases-put_more l = length l.fs.now
