-- A leaf admits what its bounds and its weekdays mean.
use Rattle.std.specs.Prelude.{ℕ, ◌&&◌, Option, nat_le}
use Rattle.std.proofs.lemmas.Bool.{and_from, and_parts}
use Rattle.leaf.specs.Numbers.{has_bit}
use Rattle.leaf.specs.Kind.Ext.{value}
use Rattle.leaf.specs.Kind.{ext_le, from, upto}
use Rattle.leaf.specs.Laws.Limits.{nat_high, nat_low}
use Rattle.days.specs.Calendar.{is_day_number, weekday}
use Rattle.days.specs.Leaves.{leaf_of}
use Rattle.days.specs.Meaning.{Means, WrittenMeans}
use Rattle.days.specs.Words.{value_of}
use Rattle.days.specs.Weekdays.{is_on_grid}

pub leaf_means : (low high : Option ℕ) (set : ℕ) → Means low high set (leaf_of low high set)
unfolding is_on_grid
leaf_means low high set d =
    let from_low = ext_le nat_le (from low) (value d) in
    let to_high = ext_le nat_le (value d) (upto high) in
    let day = is_day_number d in
    let held = has_bit set (weekday d) in (
      λ t.
          let x = and_parts from_low (to_high && (day && held)) t in
          let y = and_parts to_high (day && held) x.1 in
          let z = and_parts day held y.1 in
          record {
            day = z.0;
            minimum = λ u e. (nat_low low d).0 x.0 u e;
            maximum = λ u e. (nat_high high d).0 y.0 u e;
            weekday = z.1;
          },
      λ w.
          and_from from_low (to_high && (day && held)) ((nat_low low d).1 w.minimum)
          (and_from to_high (day && held) ((nat_high high d).1 w.maximum) (and_from day held w.day w.weekday)),
    )

pub written_means : WrittenMeans
unfolding WrittenMeans
written_means w = leaf_means (value_of w.low) (value_of w.high) w.rest
