use Rattle.std.proofs.Common.{List, ℕ, rules, subst}
use Rattle.std.proofs.lemmas.Fn.{fronts, slice_gives}
use Rattle.std.specs.Iterator.{AlwaysYields}
use Rattle.notation.specs.Text.{with_digit}
use Rattle.notation.specs.Laws.Stepping.{stepped_by}
use Rattle.notation.proofs.numbers.digits_after.Goals as goal

pub returns : goal.returns
returns c =
    let h = c.try_fold.ensures.ran in
    stepped_by _ with_digit (tt {0}) (λ n x r q k. search rules) _ c.iter.result _ c.args.text.now c.args.n _
    (subst (λ (bs : List ℕ). AlwaysYields fronts (λ y. y.now) c.iter.result bs) c.iter.ensures.rest (slice_gives c.iter.result)) h.0 h.1 h.2 h.3 h.4 h.5 h.6
