use Rattle.std.proofs.Common.{refl}
use Rattle.days.specs.Sets.{holds_is}
use Rattle.days.proofs.weekdays.holds_set.Goals as goal

pub returns : goal.returns
returns c = record { value = refl; meant = holds_is c.args.a c.args.b }
