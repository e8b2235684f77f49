use Rattle.std.proofs.Common.{◌≤◌, ◌<◌, ◌≡◌, ◌+◌, ◌^◌, ℕ, length, ap, ◌∙◌, arith, rules}
use Rattle.notation.specs.Laws.Counted.{all_counted, none_counted, one_counted}
use Rattle.notation.specs.Laws.Numbered.{all_written, nothing_yet, one_written}
use Rattle.notation.specs.Laws.NumberedLines.{few_lines, first_fits, left, next_fits, no_line_left, number}
use Rattle.notation.specs.Numbered.{numbered}
use Rattle.notation.specs.Text.{lines_of}
use Rattle.replays.specs.Replays.{difference, differs, is_case, tally_text}
use Rattle.replays.proofs.replay.replay_all.Goals as goal

pub loop-k-init : goal.loop-k-init
loop-k-init g c =
    let text = c.args.text.now in
    let it = c.into_iter-k-iterator.result in
    let all = lines_of text in
    let dif = difference g.R.Replay.holds in
    let dis = differs g.R.Replay.holds in
    let first : number it ≡ 1 = search rules in
    let whole : left it ≡ all = search rules in
    let short : length text < 2 ^ 63 = search rules in
    let none : c.default-tally.result.replayed ≡ 0 = search rules in
    let same : c.default-tally.result.different ≡ 0 = search rules in
    record {
      fits = first_fits it text first whole short;
      written = nothing_yet dif (numbered dif 1 all) (g.W.Write.contents c.args.out.now) (number it) (left it) (ap (λ (i : ℕ). numbered dif i (left it)) first ∙ ap (numbered dif 1) whole);
      replayed = rw (none, whole) (none_counted is_case all);
      different = rw (same, whole) (none_counted dis all);
    }

pub loop-k-preserved : goal.loop-k-preserved
loop-k-preserved g c =
    let h = c.in-Some.ensures.steps in
    let text = c.args.text.now in
    let all = lines_of text in
    let dif = difference g.R.Replay.holds in
    let dis = differs g.R.Replay.holds in
    let it = c.loop-k.k-iterator in
    let now = c.next.new.self in
    let line = c.in-Some.line.now in
    let e = c.in_ok-replay_line.ensures in
    let v = c.replay_line.new in
    let few : length all ≤ 2 ^ 63 = omega (arith, few_lines text) in
    record {
      fits = next_fits it now c.in-Some.k line c.loop-k.invariant.fits h.0.0 h.0.1 h.1;
      written =
          one_written dif (numbered dif 1 all) (g.W.Write.contents c.args.out.now) (g.W.Write.contents c.loop-k.out) (g.W.Write.contents v.out) (number it) (number now) line (left now) (left it)
          c.loop-k.invariant.written h.1 (rw h.0.0 at e.written) (h.0.1 ∙ ap (λ (i : ℕ). i + 1) h.0.0);
      replayed = one_counted is_case all c.loop-k.tally.replayed v.tally.replayed line (left now) (left it) few c.loop-k.invariant.replayed h.1 e.replayed;
      different = one_counted dis all c.loop-k.tally.different v.tally.different line (left now) (left it) few c.loop-k.invariant.different h.1 e.different;
    }

pub returns-clause-written : goal.returns-clause-written
returns-clause-written g c =
    let all = lines_of c.args.text.now in
    let dif = difference g.R.Replay.holds in
    let dis = differs g.R.Replay.holds in
    let it = c.loop-k.k-iterator in
    let none = no_line_left it c.loop-k.invariant.fits c.in-None.ensures.steps in
    let replayed = all_counted is_case all c.loop-k.tally.replayed (left it) c.loop-k.invariant.replayed none in
    let different = all_counted dis all c.loop-k.tally.different (left it) c.loop-k.invariant.different none in
    all_written dif (numbered dif 1 all) (g.W.Write.contents c.args.out.now) (g.W.Write.contents c.loop-k.out) (g.W.Write.contents c.writeln.new.self) (number it) (left it) (tally_text g.R.Replay.holds all)
    c.loop-k.invariant.written none (rw (replayed, different) at c.in_ok-writeln.ensures.bytes)
