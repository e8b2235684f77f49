-- The kind of day leaves.
use Rattle.std.specs.Prelude.{ℕ, ◌+◌, Bool, cond, ◌&&◌, Some, None, ◌==◌, nat_le, nat_lt}
use Rattle.leaf.specs.Kind.{Kind}
use Rattle.days.specs.declared.day_leaf.DayLeaf.{DayLeaf}
use Rattle.days.specs.Calendar.{is_day_number}
use Rattle.leaf.specs.Windows.{hull_of}
use Rattle.days.specs.Leaves.{is_bound, is_window, leaf_of}
use Rattle.days.specs.Layout.{Made, Role, Written, day_layout}
use Rattle.days.specs.Weekdays.{holds, is_set, next_day, is_on_grid}
use Rattle.days.specs.Grammar.{DayRefusals}
use Rattle.days.specs.Words.{Meant, value_of}

-- bounds that are days, minimum at most maximum, a set of weekdays
abbrev pub is_lawful : DayLeaf → Bool
is_lawful a =
    is_bound a.bounds.minimum && (is_bound a.bounds.maximum && (is_window a.bounds.minimum a.bounds.maximum && is_set a.weekdays))

abbrev pub days : Kind ℕ DayLeaf
days = record {
  is_value = is_day_number;
  le = nat_le;
  succ = λ v. cond (nat_lt v 73048) (Some (v + 1)) None;
  lawful = is_lawful;
  minimum = λ a. a.bounds.minimum;
  maximum = λ a. a.bounds.maximum;
  rule_le = λ a b. nat_le a.weekdays b.weekdays;
  on_grid = λ a v. is_on_grid a.weekdays v;
  rule_admits = λ a v. is_on_grid a.weekdays v;
  next_on_grid = λ a v. next_day a.weekdays v;
  rule_covers = λ a b. holds a.weekdays b.weekdays;
  blank = leaf_of None None 127;
  join = λ a b. record { bounds = hull_of nat_le a.bounds b.bounds; weekdays = a.weekdays };
  kind_byte = λ b. (b == 68);
  Role = Role;
  Written = Written;
  Made = Made;
  layout = λ b. day_layout;
  Meant = λ w d. Meant (value_of w.low) (value_of w.high) w.rest d;
  Refusals = DayRefusals;
}
