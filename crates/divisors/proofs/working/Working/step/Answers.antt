use Rattle.std.proofs.Common.{arith}
use Rattle.divisors.specs.Rows.{held}
use Rattle.divisors.proofs.Steps.{by_join, by_strip, lighter, no_join}
use Rattle.divisors.proofs.working.Working.step.Goals as goal

pub returns-then-join_once : goal.returns-then-join_once
returns-then-join_once c =
    let old = held c.args.self.now in
    let now = held c.join_once.new.self in
    let s = by_join old now c.join_once.result c.if-join_once.true c.join_once.ensures.join in
    record { step = s; lighter = lighter old now c.join_once.result c.requires.tidy s; tidy = c.join_once.ensures.tidy; count = c.join_once.ensures.count }

pub returns-else-join_once : goal.returns-else-join_once
returns-else-join_once c =
    let old = held c.args.self.now in
    let mid = held c.join_once.new.self in
    let now = held c.strip_once.new.self in
    let n = no_join old mid c.join_once.result c.if-join_once.false c.join_once.ensures.join in
    let s = by_strip old mid now c.strip_once.result n c.strip_once.ensures.strip in
    record { step = s; lighter = lighter old now c.strip_once.result c.requires.tidy s; tidy = c.strip_once.ensures.tidy; count = omega (arith, c.join_once.ensures.count, c.strip_once.ensures.count) }
