use Rattle.std.proofs.Common.{List, eqb, rules, tests, ap, ◌∙◌}
use Rattle.divisors.specs.declared.fraction.Fraction.{Fraction}
use denote.Param.Always.{mut_total}
use Rattle.std.proofs.lemmas.Iterator.Splits.{YieldsList-from_slice_split}
use Rattle.notation.specs.Text.{pieces}
use Rattle.notation.proofs.Parts.{from_none, joined, next_part, no_divisor, no_part_left}
use Rattle.notation.proofs.fractions.between_commas.Given as given
use Rattle.notation.proofs.fractions.between_commas.Goals as goal

pub returns-in_default : goal.returns-in_default
returns-in_default c = no_divisor (given.iterator-loop-part).next_gives _ _ c.loop-part.part-iterator c.next.new.self c.in-Some.part c.loop-part.invariant.left c.in-Some.ensures.steps c.in_default.ensures

pub loop-part-init : goal.loop-part-init
loop-part-init c =
    let ps = pieces 44 c.args.text.now in
    let yields = YieldsList-from_slice_split _ (λ b. eqb b 44) c.args.text.now (cc) (cc) (cc) (λ x r q k. search (rules, tests)) in
    record { can = mut_total _ _ (λ s a. tt); ends = tt; left = (ps, yields.runs, ap (λ (xs : List Fraction). joined xs ps) c.new-list.ensures.items ∙ from_none ps) }

pub loop-part-preserved : goal.loop-part-preserved
loop-part-preserved c =
    record { can = search rules; ends = tt; left = next_part (given.iterator-loop-part).next_gives _ _ c.loop-part.part-iterator _ c.in-Some.part c.in-Some-divisor.f _ c.loop-part.invariant.left c.in-Some.ensures.steps c.in-Some-divisor.ensures c.in_ok-push.ensures.items }

pub returns : goal.returns
returns c = no_part_left (given.iterator-loop-part).next_gives _ _ c.loop-part.part-iterator _ c.loop-part.invariant.left c.in-None.ensures.steps
