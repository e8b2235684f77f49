-- The kind of amount leaves.
use Rattle.std.specs.Prelude.{Bool, ◌&&◌, [], ℤ, None, ◌==◌, unsigned_abs}
use Rattle.std.specs.Int.Signed.{le_z}
use Rattle.divisors.specs.Dividing.{bars_no_more, divide_all}
use Rattle.divisors.specs.Rows.{is_folded, is_thinned}
use Rattle.leaf.specs.Kind.{Kind}
use Rattle.leaf.specs.Windows.{hull_of}
use Rattle.amounts.specs.declared.amount_leaf.AmountLeaf.{AmountLeaf}
use Rattle.amounts.specs.Values.{incremented, is_amount, next_of, is_on_grid}
use Rattle.amounts.specs.Rules.{admitted, both_at_most, step}
use Rattle.amounts.specs.Leaves.{barred, leaf_of, is_bound, is_window, required}
use Rattle.amounts.specs.Layout.{Made, Role, Written, amount_layout}
use Rattle.amounts.specs.Grammar.{AmountRefusals}
use Rattle.amounts.specs.Words.{Meant, value_of}

-- bounds that are amounts, minimum at most maximum, a folded and a thinned list
abbrev pub is_lawful : AmountLeaf → Bool
is_lawful a =
    is_bound a.bounds.minimum && (is_bound a.bounds.maximum && (is_window a.bounds.minimum a.bounds.maximum &&
    (is_folded a.required && is_thinned a.barred)))

abbrev pub amounts : Kind ℤ AmountLeaf
amounts = record {
  is_value = is_amount;
  le = le_z;
  succ = incremented;
  lawful = is_lawful;
  minimum = λ a. a.bounds.minimum;
  maximum = λ a. a.bounds.maximum;
  rule_le = λ a b. both_at_most (required a) (barred a) (required b) (barred b);
  on_grid = λ a v. is_on_grid (step (required a)) v;
  rule_admits = λ a v. is_amount v && admitted (required a) (barred a) (unsigned_abs v);
  next_on_grid = λ a v. next_of (step (required a)) v;
  rule_covers = λ a b. divide_all (required a) (required b) && bars_no_more (barred a) (barred b);
  blank = leaf_of None None [] [];
  join = λ a b. record { bounds = hull_of le_z a.bounds b.bounds; required = a.required; barred = a.barred };
  kind_byte = λ b. (b == 65);
  Role = Role;
  Written = Written;
  Made = Made;
  layout = λ b. amount_layout;
  Meant = λ w v. Meant (value_of w.low) (value_of w.high) w.rest.0 w.rest.1 v;
  Refusals = AmountRefusals;
}
