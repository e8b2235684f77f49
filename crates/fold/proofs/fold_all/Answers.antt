use Rattle.std.proofs.Common.{◌≤◌, ◌<◌, ◌≡◌, ◌^◌, length, ap, arith, map, rules}
use Rattle.std.proofs.lemmas.Result.{on_ok_weaker}
use Rattle.std.proofs.lemmas.List.{length-map}
use Rattle.notation.specs.Laws.NumberedLines.{few_lines, first_fits, left, next_fits, no_line_left, number}
use Rattle.notation.specs.Laws.Reports.{ends, reported, starts}
use Rattle.notation.specs.Text.{lines_of}
use Rattle.fold.specs.Outcomes.{counted, counts, is_fold, is_other, is_refusal, outcome_of, said}
use Rattle.fold.specs.Output.{outcomes_of}
use Rattle.fold.specs.Texts.{line_text}
use Rattle.fold.proofs.Turns.{counts_one}
use Rattle.fold.proofs.fold_all.Goals as goal

pub loop-k-init : goal.loop-k-init
loop-k-init g c =
    let text = c.args.text.now in
    let first : number c.into_iter-k-iterator.result ≡ 1 = search rules in
    let whole : left c.into_iter-k-iterator.result ≡ lines_of text = search rules in
    let short : length text < 2 ^ 63 = search rules in
    let few : length (outcomes_of text) ≤ 2 ^ 63 = omega (arith, length-map (lines_of text) outcome_of, few_lines text) in
    record {
      fits = first_fits c.into_iter-k-iterator.result text first whole short;
      left =
          starts line_text is_fold is_refusal is_other (outcomes_of text) (g.W.Write.contents c.args.out.now) few
          c.default-tally.result.folded c.default-tally.result.refused c.default-tally.result.malformed (number c.into_iter-k-iterator.result) (map outcome_of (left c.into_iter-k-iterator.result))
          (search rules) (search rules) (search rules) first (ap (map outcome_of) whole);
    }

pub loop-k-preserved : goal.loop-k-preserved
loop-k-preserved g c =
    let h = c.in-Some.ensures.steps in
    let r = c.in_ok-report.ensures in
    let was = c.loop-k.tally in
    let now = c.report.new.self in
    record {
      fits = next_fits c.loop-k.k-iterator c.next.new.self c.in-Some.k c.in-Some.line.now c.loop-k.invariant.fits h.0.0 h.0.1 h.1;
      left =
          reported line_text is_fold is_refusal is_other (outcomes_of c.args.text.now) (g.W.Write.contents c.args.out.now) (counts now ≡ counts was) (λ o. counts now ≡ counted o (counts was))
          outcome_of (g.W.Write.contents c.loop-k.out) (g.W.Write.contents c.report.new.out)
          was.folded was.refused was.malformed now.folded now.refused now.malformed (number c.loop-k.k-iterator) c.in-Some.k (number c.next.new.self)
          c.in-Some.line.now (left c.next.new.self) (left c.loop-k.k-iterator) (said c.fold_line.result) (counts_one (counts was) (counts now))
          c.loop-k.invariant.left h.1 h.0.0 h.0.1 c.fold_line.ensures r.memory r.counts r.written;
    }

pub returns : goal.returns
returns g c =
    let none = no_line_left c.loop-k.k-iterator c.loop-k.invariant.fits c.in-None.ensures.steps in
    let done = ends line_text is_fold is_refusal is_other (outcomes_of c.args.text.now) _ _ _ _ _ _ _ c.loop-k.invariant.left (ap (map outcome_of) none) in
    on_ok_weaker c.writeln.result (λ w. done.then _ _ (rw (done.firsts, done.seconds, done.thirds) at w)) c.writeln.ensures.bytes
