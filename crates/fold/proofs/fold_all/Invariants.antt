use Rattle.std.proofs.Common.{map}
use Rattle.notation.specs.Laws.NumberedLines.{Fits, left, number}
use Rattle.notation.specs.Laws.Reports.{Left}
use Rattle.fold.specs.Outcomes.{is_fold, is_other, is_refusal, outcome_of}
use Rattle.fold.specs.Output.{outcomes_of}
use Rattle.fold.specs.Texts.{line_text}
use Rattle.fold.proofs.fold_all.Given as goal

abbrev pub invariant-loop-k : goal.invariant-loop-k
invariant-loop-k g l = record {
  fits : Fits l.k-iterator;
  left : Left line_text is_fold is_refusal is_other (outcomes_of l.text) (g.W.Write.contents l.fn.out)
      (g.W.Write.contents l.out) l.tally.folded l.tally.refused l.tally.malformed (number l.k-iterator) (map outcome_of (left l.k-iterator));
}
