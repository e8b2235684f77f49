use Rattle.std.proofs.Common.{◌+◌, get_or, ap, ◌∙◌, inl, inr, arith, ltb-false}
use Rattle.std.proofs.lemmas.Result.{err_from_is_err_and}
use Rattle.faults.specs.Faults.{found, refused}
use Rattle.leaf.proofs.Steps.{onward, refuses, spoils, finds, assembled}
use Rattle.leaf.proofs.numbers.+groups.Goals as goal
use Rattle.leaf.proofs.numbers.+groups.Goals.{then-high-eq0-via-then-high-eq0, then-high-eq0-via-else-high-eq0+then-high-ne0}

pub returns-in_err-high-clause-reads : goal.returns-in_err-high-clause-reads
returns-in_err-high-clause-reads t c =
    let q = err_from_is_err_and c.from_residual.result c.from_residual.ensures.1 in
    rw (q.1, q.2) (onward _ _ _ _ c.requires (omega (arith, ltb-false)) (omega arith) _ _ c.in_err-high.ensures.reads (refuses _ _ _ _))

pub returns-then-high-eq0-clause-reads : goal.returns-then-high-eq0-clause-reads
returns-then-high-eq0-clause-reads t c =
    ap refused c.at-bad.ensures ∙ onward _ _ _ _ c.requires (omega (arith, ltb-false)) (omega arith) _ _ c.in_ok-high.ensures.reads (λ g k e. spoils _ _ _ _ _ g k e (elim c.then-high-eq0.branch [ then-high-eq0-via-then-high-eq0 w ↦ inl (omega arith) | then-high-eq0-via-else-high-eq0+then-high-ne0 w ↦ inr (omega arith) ]))

pub returns-clause-reads : goal.returns-clause-reads
returns-clause-reads t c =
    let small = c.if-high-ne0.false in
    let a = assembled c.in_ok-high.high (get_or c.args.rest.now 0 0) c.from-2.result (omega arith) c.from-2.ensures in
    ap (λ v. found v (c.args.start + (c.in_ok-high.used + 1))) a ∙ onward _ _ _ _ c.requires (omega (arith, ltb-false)) (omega arith) _ _ c.in_ok-high.ensures.reads (λ g k e. finds _ _ _ _ _ g k e (omega arith) (omega arith))
