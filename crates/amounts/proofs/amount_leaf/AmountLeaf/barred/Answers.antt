use Rattle.std.proofs.Common.{◌≡◌, true, false, ◌&&◌, None, Some, MatchOption, Option, ap}
use Rattle.std.specs.Option.{IsSomeAnd}
use Rattle.std.proofs.lemmas.Bool.{and_parts, both_ways}
use Rattle.divisors.specs.declared.row.Row.{Row}
use Rattle.divisors.specs.declared.thinned.Thinned.{Thinned}
use Rattle.divisors.specs.Rows.{fractions, is_folded, is_thinned}
use Rattle.amounts.specs.Leaves.{is_bound, is_window}
use Rattle.amounts.proofs.amount_leaf.AmountLeaf.barred.Goals as goal

-- the list made of the row is that of the row
same_list : (r : Row) (o : Option Thinned) → is_thinned r ≡ true → MatchOption o (is_thinned r ≡ false) (λ f. f.row ≡ r) → IsSomeAnd o (λ f. fractions f.row ≡ fractions r)
same_list r None t e = absurd (both_ways (is_thinned r) e t)
same_list r (Some f) t e = ap fractions e

pub returns-clause-lawful : goal.returns-clause-lawful
returns-clause-lawful c h =
    let a = c.args.self.now in
    let low = a.bounds.minimum in
    let high = a.bounds.maximum in
    let u = and_parts (is_bound low) (is_bound high && (is_window low high && (is_folded a.required && is_thinned a.barred))) h in
    let v = and_parts (is_bound high) (is_window low high && (is_folded a.required && is_thinned a.barred)) u.1 in
    let w = and_parts (is_window low high) (is_folded a.required && is_thinned a.barred) v.1 in
    same_list a.barred c.from_row.result (and_parts (is_folded a.required) (is_thinned a.barred) w.1).1 c.from_row.ensures.holds
