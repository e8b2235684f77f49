use Rattle.std.proofs.Common.{◌≡◌, ◌∷◌, length, rules, sym, ap, arith}
use Rattle.std.proofs.lemmas.Bool.{eqb-false}
use Rattle.notation.specs.Text.{lines_of}
use Rattle.notation.proofs.Cuts.{next_line}
use Rattle.notation.proofs.text_lines.LinesIterator.next.Goals as goal

pub returns-clause-steps : goal.returns-clause-steps
returns-clause-steps c =
    let rest = c.args.self.now.rest.now in
    next_line rest _ _ _ (omega (arith, eqb-false (length rest) 0 (sym c.if-is_empty.ensures))) c.find-end.ensures.value c.front.ensures c.behind-self.ensures

pub returns-clause-goes : goal.returns-clause-goes
returns-clause-goes c =
    let rest = c.args.self.now.rest.now in
    let e : lines_of rest ≡ c.front.result.now ∷ lines_of c.behind-self.result.now = next_line rest _ _ _ (omega (arith, eqb-false (length rest) 0 (sym c.if-is_empty.ensures))) c.find-end.ensures.value c.front.ensures c.behind-self.ensures in
    let l = ap length e in
    search rules
