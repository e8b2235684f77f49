-- Windows of every day: one rule, and every day on its grid.
use Rattle.std.specs.Prelude.{◌≡◌, ℕ, ◌+◌, ◌^◌, ◌≤◌, Bool, true, false, cond, ◌&&◌, leb, [], ◌∷◌, Some, None, Ok, Err, Option, Result, ⊤, ◌==◌, nat_lt}
use Rattle.faults.specs.Faults.{Refused, unplaced}
use Rattle.leaf.specs.Fields.{Shape, byte, number}
use Rattle.leaf.specs.Kind.{Kind, ext_le, from, is_window_of, upto}
use Rattle.leaf.specs.Headed.{Headed, MadeLeaf, WrittenLeaf, headed_layout, unsigned_flags}
use Rattle.leaf.specs.Layouts.{Layout}
use Rattle.leaf.specs.Numbers.{are_flags}
use Rattle.leaf.specs.Plans.{Table, Plan, done, ask, nothing, fits_if}
use Rattle.leaf.specs.Windows.{hull_of, written}
use Rattle.spans.specs.declared.span.Span.{Span}

abbrev pub is_day : ℕ → Bool
is_day v = nat_lt v (2 ^ 32)

abbrev pub is_bound : Option ℕ → Bool
is_bound = fits_if is_day

abbrev pub following : ℕ → Option ℕ
following v = cond (is_day (v + 1)) (Some (v + 1)) None

abbrev pub window : Option ℕ → Option ℕ → Span
window x y = record { bounds = record { minimum = x; maximum = y } }

-- the maker: refused 8 where the minimum is above the maximum
abbrev pub made_of : Option ℕ → Option ℕ → Result Span Refused
made_of x y = cond (is_window_of leb x y) (Ok (window x y)) (Err (unplaced 8))

-- v is no earlier than the minimum and no later than the maximum, where they are there
pub record Meant (low high : Option ℕ) (v : ℕ) : Type 0 where
  pub minimum : (x : ℕ) → low ≡ Some x → x ≤ v
  pub maximum : (y : ℕ) → high ≡ Some y → v ≤ y

-- on a sheet: flags, and the number of each day that they name, below 2^32
pub data Role : Type 0 where
  flags : Role
  day : Role

abbrev pub shape_of : Role → Shape
shape_of flags = byte
shape_of day = number

abbrev pub fits_in : Role → ℕ → Bool
fits_in flags f = are_flags false f
fits_in day n = is_day n

abbrev pub refusal_in : Role → ℕ
refusal_in flags = 4
refusal_in day = 7

abbrev pub span_table : Table Role
span_table = record { shape = shape_of; fits = fits_in; refusal = refusal_in; named = λ r at. at }

abbrev pub day_plan : Bool → Plan Role (Option ℕ)
day_plan negative = ask day (λ _ n. done (Some n))

abbrev pub span_fields : Headed Role ℕ ℕ ⊤ ⊤
span_fields = record {
  table = span_table;
  flags = flags;
  bound = day_plan;
  rest = nothing;
  bound_numbers = λ n. n ∷ [];
  is_bound = is_day;
  value = λ n. Some n;
  flags_of = unsigned_flags;
  rest_numbers = λ r. [];
  is_rest = λ r. true;
  rest_value = λ r. r;
}

abbrev pub span_layout : Layout Role (WrittenLeaf ℕ ⊤) (MadeLeaf ℕ ⊤) Span
span_layout = headed_layout span_fields (is_window_of leb) (λ bounds r. record { bounds = bounds })

abbrev pub spans : Kind ℕ Span
spans = record {
  is_value = is_day;
  le = leb;
  succ = following;
  lawful = λ a. is_bound a.bounds.minimum && (is_bound a.bounds.maximum && ext_le leb (from a.bounds.minimum) (upto a.bounds.maximum));
  minimum = λ a. a.bounds.minimum;
  maximum = λ a. a.bounds.maximum;
  rule_le = λ a b. true;
  on_grid = λ a v. is_day v;
  rule_admits = λ a v. is_day v;
  next_on_grid = λ a v. following v;
  rule_covers = λ a b. true;
  blank = window None None;
  join = λ a b. record { bounds = hull_of leb a.bounds b.bounds };
  kind_byte = λ b. (b == 83);
  Role = Role;
  Written = WrittenLeaf ℕ ⊤;
  Made = MadeLeaf ℕ ⊤;
  layout = λ b. span_layout;
  Meant = λ w v. Meant (written (λ n. Some n) w.low) (written (λ n. Some n) w.high) v;
  Refusals = λ s. ⊤;
}
