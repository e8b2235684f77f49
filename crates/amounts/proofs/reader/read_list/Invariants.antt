use Rattle.std.proofs.Common.{◌≡◌, ◌-◌, length}
use Rattle.leaf.specs.Plans.{repeat, made_at}
use Rattle.amounts.specs.Layout.{amount_table, divisor, list}
use Rattle.leaf.specs.Reading.{at_of, sheet_of}
use Rattle.divisors.specs.Rows.{fractions}
use Rattle.amounts.proofs.Listing.{after}
use Rattle.amounts.proofs.reader.read_list.Given as goal

abbrev pub invariant-loop : goal.invariant-loop
invariant-loop l =
    (sheet_of l.reader ≡ sheet_of l.fn.reader) × (length (fractions l.row) ≡ l.counter)
    × (after (fractions l.row) (made_at amount_table (repeat divisor (l.count - l.counter)) (sheet_of l.reader) (at_of l.reader)) ≡ made_at amount_table list (sheet_of l.fn.reader) (at_of l.fn.reader))
