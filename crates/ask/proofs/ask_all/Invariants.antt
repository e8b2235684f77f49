use Rattle.std.proofs.Common.{map}
use Rattle.notation.specs.Laws.NumberedLines.{Fits, left, number}
use Rattle.notation.specs.Laws.Reports.{Left}
use Rattle.questions.specs.Outcomes.{is_answer, is_other, is_refusal}
use Rattle.ask.specs.Lines.{line_outcome}
use Rattle.ask.specs.Output.{line_text, outcomes_of}
use Rattle.ask.proofs.ask_all.Given as goal

abbrev pub invariant-loop-k : goal.invariant-loop-k
invariant-loop-k g l = record {
  fits : Fits l.k-iterator;
  left : Left line_text is_answer is_refusal is_other (outcomes_of l.text) (g.W.Write.contents l.fn.out)
      (g.W.Write.contents l.out) l.tally.answered l.tally.refused l.tally.malformed (number l.k-iterator) (map line_outcome (left l.k-iterator));
}
