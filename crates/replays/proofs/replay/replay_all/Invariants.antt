use Rattle.notation.specs.Laws.Counted.{Counts}
use Rattle.notation.specs.Laws.Numbered.{Writes}
use Rattle.notation.specs.Laws.NumberedLines.{Fits, left, number}
use Rattle.notation.specs.Numbered.{numbered}
use Rattle.notation.specs.Text.{lines_of}
use Rattle.replays.specs.Replays.{difference, differs, is_case}
use Rattle.replays.proofs.replay.replay_all.Given as goal

-- what is written and counted, and the lines that are left, are all
abbrev pub invariant-loop-k : goal.invariant-loop-k
invariant-loop-k g l =
    let all = lines_of l.text in
    record {
      fits : Fits l.k-iterator;
      written : Writes (difference g.R.Replay.holds) (numbered (difference g.R.Replay.holds) 1 all) (g.W.Write.contents l.fn.out) (g.W.Write.contents l.out) (number l.k-iterator) (left l.k-iterator);
      replayed : Counts is_case all l.tally.replayed (left l.k-iterator);
      different : Counts (differs g.R.Replay.holds) all l.tally.different (left l.k-iterator);
    }
