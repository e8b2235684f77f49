use Rattle.std.proofs.Common.{sym}
use Rattle.quote.proofs.Telling.{holds_amounts, holds_days, told_amounts, told_days}
use Rattle.quote.proofs.batch.take_sheet.Goals as goal

pub returns-then-is_of_days-clause-lists : goal.returns-then-is_of_days-clause-lists
returns-then-is_of_days-clause-lists c before h =
    holds_days before c.args.sheet.now c.args.amounts.now c.args.days.now h c.sheet.new.self (sym c.if-is_of_days.ensures) c.sheet.ensures.run c.sheet.ensures.table

pub returns-then-is_of_days-clause-answer : goal.returns-then-is_of_days-clause-answer
returns-then-is_of_days-clause-answer c before h =
    told_days before c.args.sheet.now c.args.amounts.now c.args.amounts.now c.args.days.now c.sheet.new.self c.sheet.result (sym c.if-is_of_days.ensures)
    h (returns-then-is_of_days-clause-lists c before h) c.sheet.ensures.answer

pub returns-else-is_of_days-clause-lists : goal.returns-else-is_of_days-clause-lists
returns-else-is_of_days-clause-lists c before h =
    let s = c.sheet-else-is_of_days in
    holds_amounts before c.args.sheet.now c.args.amounts.now c.args.days.now h s.new.self (sym c.if-is_of_days.ensures) s.ensures.run s.ensures.table

pub returns-else-is_of_days-clause-answer : goal.returns-else-is_of_days-clause-answer
returns-else-is_of_days-clause-answer c before h =
    let s = c.sheet-else-is_of_days in
    told_amounts before c.args.sheet.now c.args.amounts.now s.new.self c.args.days.now c.args.days.now s.result (sym c.if-is_of_days.ensures)
    h (returns-else-is_of_days-clause-lists c before h) s.ensures.answer
