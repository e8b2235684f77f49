use Rattle.std.proofs.Common.{map}
use Rattle.notation.specs.Laws.NumberedLines.{Fits, left, number}
use Rattle.quote.specs.Batch.{batch_lines, bytes_in, line_with}
use Rattle.quote.proofs.Turns.{Left}
use Rattle.quote.proofs.batch.take_batch.Given as goal

abbrev pub invariant-loop-k : goal.invariant-loop-k
invariant-loop-k l = record {
  fits : Fits l.k-iterator;
  left : Left (batch_lines l.batch) l.taken l.amounts l.days (number l.k-iterator) (map (λ line. line_with (bytes_in line)) (left l.k-iterator));
}
