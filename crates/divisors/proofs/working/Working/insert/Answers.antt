use Rattle.std.proofs.Common.{◌≡◌, ℕ, ◌+◌, ◌-◌, length, get_or, ap, ◌∙◌, arith, rules}
use Rattle.divisors.specs.Fractions.{none}
use Rattle.divisors.proofs.Places.{moved_down}
use Rattle.divisors.proofs.working.Working.insert.Goals as goal

pub returns-clause-row : goal.returns-clause-row
returns-clause-row c =
    let old = c.args.self.now.items in
    let size : length old ≡ 12 = search rules in
    let moved = c.copy_within.ensures.by_index in
    moved_down old c.copy_within.new.self c.args.at c.args.self.now.count c.args.f c.requires.within (omega arith) c.copy_within.ensures.len
    (λ j h. moved.1 j none (omega arith))
    (λ j a b.
    let e : c.args.at + ((j + 1) - (c.args.at + 1)) ≡ j = omega arith in
    moved.0 (j + 1) none (omega arith) (omega arith) ∙ ap (λ (i : ℕ). get_or old i none) e)
