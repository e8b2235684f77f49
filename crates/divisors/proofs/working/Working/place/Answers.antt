use Rattle.std.proofs.Common.{◌≡◌, ℕ, not, Option, length, sym, ap, ◌∙◌, rules}
use borrow.Author.Tests.{tests}
use Rattle.std.specs.Option.{unwrap_or}
use Rattle.std.proofs.lemmas.Iterator.{YieldsList-from_slice}
use Rattle.std.proofs.lemmas.Iterator.Search.{position_from_yields_List}
use Rattle.divisors.specs.Fractions.{lower}
use Rattle.divisors.specs.Lists.{place_of}
use Rattle.divisors.proofs.Places.{place_or}
use Rattle.divisors.proofs.working.Working.place.Goals as goal

pub returns-clause-place : goal.returns-clause-place
returns-clause-place c =
    let xs = c.as_slice.result.now in
    let found = position_from_yields_List (λ x. not (lower x c.args.f)) _ _ c.position.result c.position.ensures.ran (YieldsList-from_slice xs c.iter.ensures.rest) (λ x b q k. search (rules, tests)) in
    let at : unwrap_or c.position.result c.args.self.now.count ≡ place_of c.args.f xs =
    ap (λ (n : ℕ). unwrap_or c.position.result n) (sym c.as_slice.ensures.count) ∙ (ap (λ (o : Option ℕ). unwrap_or o (length xs)) found ∙ place_or c.args.f xs) in
    c.unwrap_or.ensures ∙ (at ∙ ap (place_of c.args.f) c.as_slice.ensures.row)
