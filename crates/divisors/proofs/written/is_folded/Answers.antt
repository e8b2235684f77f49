use Rattle.std.proofs.Common.{List, sym, ap, ◌∙◌, subst}
use Rattle.divisors.specs.declared.fraction.Fraction.{Fraction}
use Rattle.divisors.specs.Fractions.{same}
use Rattle.divisors.specs.Rows.{fractions}
use Rattle.divisors.specs.Written.{FoldOf, are_in_range}
use Rattle.divisors.proofs.Padded.{folded_test, not_folded, row_decides, same_decides}
use Rattle.divisors.proofs.written.is_folded.Goals as goal

pub returns-else-all_in_range : goal.returns-else-all_in_range
returns-else-all_in_range c =
    c.if-all_in_range.false ∙ not_folded c.args.row.now (ap are_in_range (sym c.fractions-list.ensures.list) ∙ (sym c.all_in_range.ensures ∙ c.if-all_in_range.false))

pub returns-then-all_in_range : goal.returns-then-all_in_range
returns-then-all_in_range c =
    let r = c.args.row.now in
    let again = c.folded_row.result in
    let made = subst (λ (xs : List Fraction). FoldOf xs (fractions again)) c.fractions-list.ensures.list c.folded_row.ensures.folds in
    folded_test r again c.eq.result c.folded_row.ensures.kept made (row_decides same same_decides r again c.eq.result c.eq.ensures)
