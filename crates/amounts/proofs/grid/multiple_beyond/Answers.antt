use Rattle.std.proofs.Common.{arith}
use Rattle.std.proofs.lemmas.Int.{ints, to_z-of_z}
use Rattle.amounts.proofs.Snaps.{next_low, next_high}
use Rattle.amounts.proofs.grid.multiple_beyond.Goals as goal
use Rattle.amounts.proofs.grid.multiple_beyond.Goals.{then-over-lt0, else-over-lt0}

pub returns : goal.returns
returns c =
    elim c.if-over-lt0.branch [ then-over-lt0 w ↦ next_low c.args.step c.args.v _ _ c.requires (grind (arith, ints, to_z-of_z)) (grind (arith, ints, to_z-of_z)) c.checked_add.ensures | else-over-lt0 w ↦ next_high c.args.step c.args.v _ _ c.requires (grind (arith, ints, to_z-of_z)) (grind (arith, ints, to_z-of_z)) c.checked_add.ensures ]
