use Rattle.std.proofs.Common.{sym, arith, rules}
use Rattle.days.specs.Grid.{next_past, searched, search_hit, search_on}
use Rattle.days.proofs.weekdays.next_in_set.Goals as goal

pub returns-then-day-ge-LAST_DAY : goal.returns-then-day-ge-LAST_DAY
returns-then-day-ge-LAST_DAY c = sym (next_past c.args.set c.args.day (omega arith))

pub loop-next-init : goal.loop-next-init
loop-next-init c = searched c.args.set c.args.day

pub returns-then-is_in_set : goal.returns-then-is_in_set
returns-then-is_in_set c =
    sym (search_hit c.args.set c.args.day c.loop-next.next (omega arith) (omega arith) c.loop-next.invariant (search rules))

pub loop-next-preserved : goal.loop-next-preserved
loop-next-preserved c =
    search_on c.args.set c.args.day c.loop-next.next (omega arith) (omega arith) c.loop-next.invariant (search rules)
