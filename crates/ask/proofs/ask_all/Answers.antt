use Rattle.std.proofs.Common.{◌≤◌, ◌<◌, ◌≡◌, ◌^◌, length, refl, ap, arith, map, rules}
use Rattle.std.proofs.lemmas.Result.{on_ok_weaker}
use Rattle.std.proofs.lemmas.List.{length-map}
use Rattle.notation.specs.Laws.NumberedLines.{few_lines, first_fits, left, next_fits, no_line_left, number}
use Rattle.notation.specs.Laws.Reports.{ends, reported, starts}
use Rattle.notation.specs.Text.{lines_of}
use Rattle.questions.specs.Outcomes.{counted, counts, is_answer, is_other, is_refusal, said}
use Rattle.ask.specs.Lines.{line_outcome}
use Rattle.ask.specs.Output.{line_text, outcomes_of, wrong_text}
use Rattle.ask.proofs.Turns.{counts_one}
use Rattle.ask.proofs.ask_all.Goals as goal

pub loop-k-init : goal.loop-k-init
loop-k-init g c =
    let text = c.args.text.now in
    let first : number c.into_iter-k-iterator.result ≡ 1 = search rules in
    let whole : left c.into_iter-k-iterator.result ≡ lines_of text = search rules in
    let short : length text < 2 ^ 63 = search rules in
    let few : length (outcomes_of text) ≤ 2 ^ 63 = omega (arith, length-map (lines_of text) line_outcome, few_lines text) in
    record {
      fits = first_fits c.into_iter-k-iterator.result text first whole short;
      left =
          starts line_text is_answer is_refusal is_other (outcomes_of text) (g.W.Write.contents c.args.out.now) few
          c.default-tally.result.answered c.default-tally.result.refused c.default-tally.result.malformed (number c.into_iter-k-iterator.result) (map line_outcome (left c.into_iter-k-iterator.result))
          (search rules) (search rules) (search rules) first (ap (map line_outcome) whole);
    }

pub loop-k-preserved : goal.loop-k-preserved
loop-k-preserved g c =
    let h = c.in-Some.ensures.steps in
    let r = c.in_ok-report.ensures in
    let was = c.loop-k.tally in
    let now = c.report.new.self in
    record {
      fits = next_fits c.loop-k.k-iterator c.next.new.self c.in-Some.k c.in-Some.line.now c.loop-k.invariant.fits h.0.0 h.0.1 h.1;
      left =
          reported line_text is_answer is_refusal is_other (outcomes_of c.args.text.now) (g.W.Write.contents c.args.out.now) (counts now ≡ counts was) (λ o. counts now ≡ counted o (counts was))
          line_outcome (g.W.Write.contents c.loop-k.out) (g.W.Write.contents c.report.new.out)
          was.answered was.refused was.malformed now.answered now.refused now.malformed (number c.loop-k.k-iterator) c.in-Some.k (number c.next.new.self)
          c.in-Some.line.now (left c.next.new.self) (left c.loop-k.k-iterator) (said c.ask_line.result) (counts_one (counts was) (counts now))
          c.loop-k.invariant.left h.1 h.0.0 h.0.1 c.ask_line.ensures.outcome r.memory r.counts (r.written wrong_text (λ w. refl));
    }

pub returns : goal.returns
returns g c =
    let none = no_line_left c.loop-k.k-iterator c.loop-k.invariant.fits c.in-None.ensures.steps in
    let done = ends line_text is_answer is_refusal is_other (outcomes_of c.args.text.now) _ _ _ _ _ _ _ c.loop-k.invariant.left (ap (map line_outcome) none) in
    on_ok_weaker c.writeln.result (λ w. done.then _ _ (rw (done.firsts, done.seconds, done.thirds) at w)) c.writeln.ensures.bytes
