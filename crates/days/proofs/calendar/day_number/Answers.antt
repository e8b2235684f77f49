use Rattle.std.proofs.Common.{◌+◌, Bool, Some, sym, ap, ◌∙◌, arith, rules}
use Rattle.days.specs.Calendar.{Valid, before}
use Rattle.days.specs.Dates.{calendar_stands, dated, undated}
use Rattle.days.proofs.calendar.day_number.Goals as goal

pub returns-then-year-lt2000 : goal.returns-then-year-lt2000
returns-then-year-lt2000 c = record { value = sym (undated c.args.year c.args.month c.args.day (λ v. search rules)); laws = calendar_stands }

pub returns-then-day-from : goal.returns-then-day-from
returns-then-day-from c =
    let m = c.args.month in
    let s = ap (λ (b : Bool). before b m) c.is_leap-leap.ensures in
    let n = ap (λ (b : Bool). before b (m + 1)) c.is_leap-leap.ensures in
    let x = c.month_start-start.ensures.value in
    let y = c.month_start-next.ensures.value in
    record { value = sym (undated c.args.year m c.args.day (λ v. let l = v.last in omega arith)); laws = calendar_stands }

pub returns : goal.returns
returns c =
    let m = c.args.month in
    let s = ap (λ (b : Bool). before b m) c.is_leap-leap.ensures in
    let n = ap (λ (b : Bool). before b (m + 1)) c.is_leap-leap.ensures in
    let x = c.month_start-start.ensures.value in
    let y = c.month_start-next.ensures.value in
    let v : Valid c.args.year m c.args.day = record { from = search rules; to = search rules; month = search rules; year = search rules; day = search rules; last = omega arith } in
    record { value = sym (dated c.args.year m c.args.day v ∙ ap Some (omega arith)); laws = calendar_stands }
