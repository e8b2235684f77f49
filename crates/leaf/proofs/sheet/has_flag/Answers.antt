use Rattle.std.proofs.Common.{ℕ, ◌%◌, ◌^◌, ◌<◌, ◌≤◌, eqb, sym, ap, ◌∙◌, arith, pow_mono}
use native.Mathlib.Nat.{div-eq_of_lt}
use Rattle.std.proofs.lemmas.Bool.{le-ltb}
use Rattle.leaf.proofs.sheet.has_flag.Goals as goal

pub returns-else-bit-lt8 : goal.returns-else-bit-lt8
returns-else-bit-lt8 c =
    let h : 8 ≤ c.args.bit = omega arith in
    let room : 2 ^ 8 ≤ 2 ^ c.args.bit = pow_mono h in
    let small : c.args.flags < 2 ^ c.args.bit = omega arith in
    le-ltb c.args.bit 8 h ∙ sym (ap (λ (x : ℕ). eqb (x % 2) 1) (div-eq_of_lt small))
