use Rattle.std.proofs.Common.{ap, length, rules}
use Rattle.divisors.specs.Rows.{fractions}
use Rattle.foreign.proofs.Handing.{handed}
use Rattle.foreign.proofs.lists.Divisors.of_row.Goals as goal

pub returns : goal.returns
returns c =
    let list = c.fractions-list in
    handed (fractions c.args.row) c.copy_from_slice.new.self (length list.result.now) (search rules) (ap length list.ensures.list) list.ensures.few
