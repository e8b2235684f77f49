use Rattle.leaf.specs.Laws.Slices.{bytes_held}
use Rattle.leaf.proofs.numbers.number.Goals as goal

pub returns-in-0-to-127-clause-bytes : goal.returns-in-0-to-127-clause-bytes
returns-in-0-to-127-clause-bytes c = bytes_held c.args.rest.now c.type_inv.rest

pub returns-clause-bytes : goal.returns-clause-bytes
returns-clause-bytes c = bytes_held c.args.rest.now c.type_inv.rest
