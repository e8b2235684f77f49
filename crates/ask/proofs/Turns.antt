-- An outcome more in the counts.
use Rattle.std.proofs.Common.{◌≡◌}
use Rattle.notation.specs.Laws.Reports.{Steps}
use Rattle.questions.specs.Outcomes.{Counts, Outcome, answered, counted, is_answer, is_other, is_refusal, malformed, refused}
use Rattle.ask.specs.declared.wrong.Wrong.{Wrong}

pub counts_one : (b c : Counts) (o : Outcome Wrong) → c ≡ counted o b → Steps (is_answer o) b.answers c.answers × (Steps (is_refusal o) b.refusals c.refusals × Steps (is_other o) b.others c.others)
counts_one b c (answered x) e = (cc, (cc, cc))
counts_one b c (refused n) e = (cc, (cc, cc))
counts_one b c (malformed w) e = (cc, (cc, cc))
