use Rattle.std.proofs.Common.{◌≡◌, pos, nat_abs, ◌<ℤ◌, decimal, subst, arith, rules}
use Rattle.std.proofs.lemmas.Int.{ints, to_z-of_z}
use Rattle.texts.specs.Cursors.{Put}
use Rattle.texts.specs.Laws.Writes.{put_then}
use Rattle.amounts.proofs.Writes.{signed_minus, signed_short}
use Rattle.amounts.proofs.text.put_signed.Goals.{then-z-lt0, else-z-lt0}
use Rattle.amounts.proofs.text.put_signed.Goals as goal

pub returns-clause-put : goal.returns-clause-put
returns-clause-put c =
    let f = c.ranges.z in
    elim c.if-z-lt0.branch [
      | then-z-lt0 w ↦
          let n : c.unsigned_abs.result ≡ nat_abs c.args.z = grind (arith, to_z-of_z) in
          let h : c.args.z <ℤ pos 0 = grind (arith, ints, to_z-of_z) in
          rw (signed_minus c.args.z h, ← n) (put_then w.byte.ensures (subst (λ o. Put o (decimal c.unsigned_abs.result) c.decimal.new.self) w.out-is c.decimal.ensures.put))
      | else-z-lt0 w ↦ search rules
    ]

pub returns-clause-short : goal.returns-clause-short
returns-clause-short c = signed_short c.args.z (search rules)
