use Rattle.std.proofs.Common.{◌≡◌, List, true, sym, ap, ◌∙◌, subst}
use Rattle.std.specs.List.{remove}
use Rattle.divisors.specs.declared.fraction.Fraction.{Fraction}
use Rattle.divisors.specs.Lists.{are_reduced}
use Rattle.divisors.specs.Rows.{held}
use Rattle.divisors.proofs.Steps.{join_reduced, joins_to, still_tidy}
use Rattle.divisors.proofs.working.Working.join_once.Goals as goal

pub tidy-requires-clause-reduced : goal.tidy-requires-clause-reduced
tidy-requires-clause-reduced c =
    let t = c.in-Some.t in
    let row = c.remove.ensures.row ∙ ap (λ (xs : List Fraction). remove xs t.right) c.replace.ensures.row in
    subst (λ (xs : List Fraction). are_reduced xs ≡ true) (sym row) (join_reduced (held c.args.self.now) t c.in-Some.ensures c.requires.tidy)

pub returns-clause-join : goal.returns-clause-join
returns-clause-join c =
    let t = c.in-Some.t in
    let row = c.remove.ensures.row ∙ ap (λ (xs : List Fraction). remove xs t.right) c.replace.ensures.row in
    joins_to (held c.args.self.now) (held c.remove.new.self) (held c.tidy.new.self) t c.in-Some.ensures row c.tidy.ensures.tidies

pub returns-clause-tidy : goal.returns-clause-tidy
returns-clause-tidy c =
    let t = c.in-Some.t in
    let row = c.remove.ensures.row ∙ ap (λ (xs : List Fraction). remove xs t.right) c.replace.ensures.row in
    still_tidy (held c.remove.new.self) (held c.tidy.new.self) c.tidy.ensures.tidies
    (subst (λ (xs : List Fraction). are_reduced xs ≡ true) (sym row) (join_reduced (held c.args.self.now) t c.in-Some.ensures c.requires.tidy))
