use Rattle.std.proofs.Common.{◌≡◌, ◌-◌, Bool, true, ap, inl, inr, ⊎_elim, arith, rules}
use Rattle.days.specs.Calendar.{before}
use Rattle.days.specs.Tables.{start_le, table_early, table_late}
use Rattle.days.proofs.calendar.month_start.Goals as goal

pub overflow_add-result : goal.overflow_add-result
overflow_add-result c = let h = start_le (c.args.month - 1) in search rules

pub returns-then-month-gt2 : goal.returns-then-month-gt2
returns-then-month-gt2 c =
    let h = start_le (c.args.month - 1) in
    let t : c.args.is_leap ≡ true = search rules in
    let e = ap (λ (b : Bool). before b c.args.month) t in
    let f = table_late c.args.month (omega arith) (omega arith) in
    record { value = omega arith; small = omega arith }

pub returns-else-is_leap : goal.returns-else-is_leap
returns-else-is_leap c =
    let h = start_le (c.args.month - 1) in
    let f = table_early c.args.is_leap c.args.month (⊎_elim (λ p. inr p.1) inl c.else-is_leap.either) in
    record { value = omega arith; small = omega arith }
