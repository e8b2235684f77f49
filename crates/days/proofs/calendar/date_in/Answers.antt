use Rattle.std.proofs.Common.{◌+◌, Bool, ap, arith}
use Rattle.days.specs.Calendar.{before, leap}
use Rattle.days.specs.Dates.{in_month}
use Rattle.days.specs.Tables.{first_month}
use Rattle.days.proofs.calendar.date_in.Goals as goal

pub loop-month-init : goal.loop-month-init
loop-month-init c = let z = first_month (leap c.args.year) in omega arith

pub overflow_sub-left : goal.overflow_sub-left
overflow_sub-left c =
    let s = ap (λ (b : Bool). before b c.loop-month.month) c.is_leap-leap.ensures in
    let x = c.month_start-start.ensures.value in
    let i = c.loop-month.invariant in
    omega arith

pub returns-then-left-month_start : goal.returns-then-left-month_start
returns-then-left-month_start c =
    let m = c.loop-month.month in
    let s = ap (λ (b : Bool). before b m) c.is_leap-leap.ensures in
    let n = ap (λ (b : Bool). before b (m + 1)) c.is_leap-leap.ensures in
    let x = c.month_start-start.ensures.value in
    let y = c.month_start.ensures.value in
    let i = c.loop-month.invariant in
    in_month c.args.year c.args.left m c.from.result c.from-then-left-month_start.result c.from-then-left-month_start-2.result c.from.ensures c.from-then-left-month_start.ensures (omega (arith, c.from-then-left-month_start-2.ensures))
    (omega arith) (omega arith) (omega arith) (omega arith) (omega arith) (omega arith)

pub loop-month-preserved : goal.loop-month-preserved
loop-month-preserved c =
    let m = c.loop-month.month in
    let n = ap (λ (b : Bool). before b (m + 1)) c.is_leap-leap.ensures in
    let y = c.month_start.ensures.value in
    omega arith
