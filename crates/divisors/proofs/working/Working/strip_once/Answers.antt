use Rattle.std.proofs.Common.{◌≡◌, List, true, sym, subst}
use Rattle.divisors.specs.declared.fraction.Fraction.{Fraction}
use Rattle.divisors.specs.Lists.{are_reduced}
use Rattle.divisors.specs.Rows.{held}
use Rattle.divisors.proofs.Steps.{still_tidy, strip_reduced, strips_to}
use Rattle.divisors.proofs.working.Working.strip_once.Goals as goal

pub tidy-requires-clause-reduced : goal.tidy-requires-clause-reduced
tidy-requires-clause-reduced c =
    subst (λ (xs : List Fraction). are_reduced xs ≡ true) (sym c.replace.ensures.row) (strip_reduced (held c.args.self.now) c.in-Some.t c.in-Some.ensures c.requires.tidy)

pub returns-clause-strip : goal.returns-clause-strip
returns-clause-strip c =
    strips_to (held c.args.self.now) (held c.replace.new.self) (held c.tidy.new.self) c.in-Some.t c.requires.joinless c.in-Some.ensures c.replace.ensures.row c.tidy.ensures.tidies

pub returns-clause-tidy : goal.returns-clause-tidy
returns-clause-tidy c =
    still_tidy (held c.replace.new.self) (held c.tidy.new.self) c.tidy.ensures.tidies
    (subst (λ (xs : List Fraction). are_reduced xs ≡ true) (sym c.replace.ensures.row) (strip_reduced (held c.args.self.now) c.in-Some.t c.in-Some.ensures c.requires.tidy))
