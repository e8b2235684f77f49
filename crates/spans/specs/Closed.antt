-- A kind at days without a day: what each part means goes by the kind below.
use Rattle.std.specs.Prelude.{ℕ, Bool, true, false, cond, not, ◌&&◌, Some, None, Option, ⊤, ◌==◌, nat_le}
use Rattle.leaf.specs.Kind.{Kind, ext_le, from}
use Rattle.leaf.specs.Layouts.{no_layout}
use Rattle.spans.specs.declared.closed.Closed.{Closed}

abbrev pub is_shut : Option ℕ → ℕ → Bool
is_shut None v = false
is_shut (Some d) v = d == v

-- what the first leaves out, the second leaves out
abbrev pub part_of : Option ℕ → Option ℕ → Bool
part_of None c = true
part_of (Some d) c = is_shut c d

-- the order of pairs, from the orders of their parts: r and r' say how the first parts stand, s how the second do
abbrev pub pair_le : Bool → Bool → Bool → Bool
pair_le r r' s = cond r (cond r' s true) false

-- the next day below, or the one after it where that is the day left out
abbrev pub open_next : (ℕ → Option ℕ) → Option ℕ → Option ℕ → Option ℕ
open_next step c None = None
open_next step c (Some w) = cond (is_shut c w) (step w) (Some w)

-- a leaf below without a day
abbrev pub closed_on : {L : Type 0} → L → Option ℕ → Closed L
closed_on x c = record { below = x; closing = record { day = c } }

abbrev pub closed : {L : Type 0} → Kind ℕ L → Kind ℕ (Closed L)
closed k = record {
  is_value = k.is_value;
  le = k.le;
  succ = k.succ;
  lawful = λ a. k.lawful a.below;
  minimum = λ a. k.minimum a.below;
  maximum = λ a. k.maximum a.below;
  rule_le = λ a b. pair_le (k.rule_le a.below b.below) (k.rule_le b.below a.below) (ext_le nat_le (from a.closing.day) (from b.closing.day));
  on_grid = λ a v. not (is_shut a.closing.day v) && k.on_grid a.below v;
  rule_admits = λ a v. not (is_shut a.closing.day v) && k.rule_admits a.below v;
  next_on_grid = λ a v. open_next (k.next_on_grid a.below) a.closing.day (k.next_on_grid a.below v);
  rule_covers = λ a b. part_of a.closing.day b.closing.day && k.rule_covers a.below b.below;
  blank = closed_on k.blank None;
  join = λ a b. record { below = k.join a.below b.below; closing = a.closing };
  kind_byte = λ b. false;
  Role = ⊤;
  Written = ⊥;
  Made = ⊤;
  layout = λ b. no_layout (closed_on k.blank None);
  Meant = λ w v. ⊥;
  Refusals = λ s. ⊤;
}
