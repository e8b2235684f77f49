use Rattle.std.proofs.Common.{ℕ, length, Option, ap, ◌∙◌}
use Rattle.std.specs.Option.{unwrap_or}
use Rattle.notation.proofs.Cuts.{index_or_end}
use Rattle.notation.proofs.cutting.find.Goals as goal

pub returns-clause-value : goal.returns-clause-value
returns-clause-value c =
    let bs = c.args.text.now in
    c.unwrap_or.ensures ∙ (ap (λ (o : Option ℕ). unwrap_or o (length bs)) c.place.ensures ∙ index_or_end c.args.c bs)
