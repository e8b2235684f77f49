use Rattle.std.proofs.Common.{Some, ap, ◌∙◌, arith}
use Rattle.std.proofs.lemmas.Bool.{le-ltb}
use Rattle.days.specs.Dates.{calendar_stands, dated, same_date}
use Rattle.days.proofs.calendar.date_of.Goals as goal

pub returns-else-n-le-LAST_DAY : goal.returns-else-n-le-LAST_DAY
returns-else-n-le-LAST_DAY c = record { value = le-ltb c.args.n 73049 (omega arith); inverse = tt; laws = calendar_stands }

pub returns-then-n-le-LAST_DAY : goal.returns-then-n-le-LAST_DAY
returns-then-n-le-LAST_DAY c =
    let d = c.find_date.result in
    let e = c.find_date.ensures in
    let v = dated d.year d.month d.day e.0 ∙ ap Some e.1 in
    record { value = v; inverse = λ y m t q. same_date d.year d.month d.day y m t c.args.n v q; laws = calendar_stands }
