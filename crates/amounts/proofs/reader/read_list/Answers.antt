use Rattle.std.proofs.Common.{◌≡◌, ◌+◌, rules, arith, ap, ◌∙◌, length}
use Rattle.divisors.specs.Rows.{fractions}
use Rattle.std.proofs.lemmas.List.{length-append}
use Rattle.amounts.proofs.Listing.{begins, goes_on, stops, ends, taken}
use Rattle.amounts.proofs.reader.read_list.Goals as goal

pub loop-init : goal.loop-init
loop-init c = search (rules, begins)

pub returns-in_err-f : goal.returns-in_err-f
returns-in_err-f c = search (rules, stops)

pub loop-preserved : goal.loop-preserved
loop-preserved c =
    let more = taken _ _ c.push.ensures.refuses (omega (arith, c.loop.invariant.1)) c.push.ensures.pushes in
    let one : length (fractions c.push.new.self) ≡ c.loop.counter + 1 = ap length more ∙ (simp length-append (omega (arith, c.loop.invariant.1))) in
    search (rules, goes_on)

pub returns : goal.returns
returns c = search (rules, ends)
