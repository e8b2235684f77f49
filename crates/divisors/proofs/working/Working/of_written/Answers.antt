use Rattle.divisors.specs.Lists.{tidy_of}
use Rattle.divisors.specs.Rows.{held}
use Rattle.divisors.specs.Written.{lowest_above}
use Rattle.divisors.proofs.Steps.{all_written, still_tidy, tidied, written_reduced}
use Rattle.divisors.proofs.working.Working.of_written.Goals as goal

pub returns-clause-tidies : goal.returns-clause-tidies
returns-clause-tidies c =
    let n = c.args.above in
    let ws = c.args.ws.now in
    let put = all_written n ws (held c.loop-w.list) (tidy_of (lowest_above n ws)) c.loop-w.w-index c.loop-w-test.false c.loop-w.invariant.1 in
    tidied (lowest_above n ws) (held c.loop-w.list) put (written_reduced n ws c.requires.in_range)

pub returns-clause-tidy : goal.returns-clause-tidy
returns-clause-tidy c =
    still_tidy (lowest_above c.args.above c.args.ws.now) (held c.loop-w.list) (returns-clause-tidies c) (written_reduced c.args.above c.args.ws.now c.requires.in_range)
