use Rattle.std.proofs.Common.{◌-◌, ◌∙◌, length, sym, arith}
use Rattle.std.proofs.lemmas.List.{length-take-le}
use Rattle.list.proofs.Shifts.{shifted}
use Rattle.list.proofs.placing.place.Goals as goal

pub returns : goal.returns
returns g c =
    let t = c.args.table.now in
    let n = length t - 1 in
    rw c.copy_within.ensures.after (shifted t c.find_place-at.result n c.args.leaf (omega (arith, length-take-le n t (omega arith))) (omega arith) ∙ sym c.find_place-at.ensures.place)
