-- An outcome more in the counts.
use Rattle.std.proofs.Common.{◌≡◌}
use Rattle.notation.specs.Laws.Reports.{Steps}
use Rattle.fold.specs.Outcomes.{Counts, Outcome, counted, is_fold, is_other, is_refusal, lists, malformed, refused}

pub counts_one : (b c : Counts) (o : Outcome) → c ≡ counted o b → Steps (is_fold o) b.folds c.folds × (Steps (is_refusal o) b.refusals c.refusals × Steps (is_other o) b.others c.others)
counts_one b c (lists rs bs) e = (cc, (cc, cc))
counts_one b c (refused n) e = (cc, (cc, cc))
counts_one b c (malformed w) e = (cc, (cc, cc))
