use Rattle.std.proofs.Common.{ℕ, Option, ◌∙◌, subst, rules}
use Rattle.leaf.specs.Laws.Made.{window_made}
use Rattle.leaf.specs.Laws.Orders.{nat_written}
use Rattle.days.specs.Days.{days}
use Rattle.days.specs.Leaves.{leaf_of}
use Rattle.days.specs.Making.{numbered}
use Rattle.days.specs.Meaning.{Means}
use Rattle.days.specs.Words.{value_of}
use Rattle.days.specs.Lawful.{window_lawful}
use Rattle.days.specs.Dates.{day_small}
use Rattle.days.proofs.Making.{maker_judged}
use Rattle.days.proofs.Works.{worked_days}
use Rattle.days.specs.Means.{leaf_means}
use Rattle.days.proofs.day_leaf.DayLeaf.new.Goals as goal

pub returns : goal.returns
returns c =
    let set = c.args.set in
    let b = c.in_ok-bounds.bounds in
    let q = c.in_ok-bounds.ensures.value ∙ nat_written numbered c.args.minimum c.args.maximum in
    let w = window_made days numbered (λ d n e. day_small d.year d.month d.day n e) c.args.minimum c.args.maximum b q in
    record {
      value = search (rules, q);
      sound = window_lawful b.minimum b.maximum set w.window (search rules);
      means =
          subst (λ (y : Option ℕ). Means (value_of c.args.minimum) y set (leaf_of b.minimum b.maximum set)) w.maximum
          (subst (λ (x : Option ℕ). Means x b.maximum set (leaf_of b.minimum b.maximum set)) w.minimum (leaf_means b.minimum b.maximum set));
      judged = maker_judged;
      worked = worked_days;
    }
