use Rattle.std.proofs.Common.{◌≡◌, ◌/◌, ◌<◌, Ordering, subst, arith}
use Rattle.std.proofs.lemmas.Cmp.{ranked}
use Rattle.std.specs.Ordering.{MatchOrdering}
use Rattle.divisors.proofs.Sizes.{turned, unturned}
use Rattle.divisors.proofs.whole.+order.Goals as goal

pub returns-in-Equal : goal.returns-in-Equal
returns-in-Equal t c =
    let e = ranked (c.args.p / c.args.q) (c.args.r / c.args.s) c.cmp.result c.cmp.ensures in
    turned c.args.p c.args.q c.args.r c.args.s (subst (λ (o : Ordering). MatchOrdering o (c.args.p / c.args.q < c.args.r / c.args.s) (c.args.p / c.args.q ≡ c.args.r / c.args.s) (c.args.r / c.args.s < c.args.p / c.args.q)) c.in-Equal.is e) c.order.result c.order.ensures

pub returns-in_default : goal.returns-in_default
returns-in_default t c =
    unturned c.args.p c.args.q c.args.r c.args.s (omega arith) (omega arith) c.cmp.result
    (ranked (c.args.p / c.args.q) (c.args.r / c.args.s) c.cmp.result c.cmp.ensures) c.in_default.not-Equal
