use Rattle.std.proofs.Common.{◌∙◌}
use Rattle.std.proofs.lemmas.Result.{IfOk-weaker}
use Rattle.sheets.specs.Output.{is_of_days}
use Rattle.cases.proofs.Answering.{answered_as}
use Rattle.cases.proofs.answer_to.Goals as goal

pub returns : goal.returns
returns c =
    let bytes = c.args.sheet.now in
    let told = answered_as (is_of_days bytes) bytes c.in_ok-printed.printed c.in_ok-printed.ensures.prints in
    IfOk-weaker c.format.result _ _ (λ s e. e ∙ told) (rw c.deref.ensures.value at c.format.ensures.ok)
