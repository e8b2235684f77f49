-- How amount leaves stand on a sheet: flags, the magnitudes of the bounds present, the count of required divisors and each as numerator
-- and denominator, then the barred ones likewise.
use Rattle.std.specs.Prelude.{ℕ, ◌^◌, Bool, true, ◌&&◌, List, [], ◌∷◌, ◌++◌, length, ℤ, Option, is_some, nat_le, nat_lt}
use Rattle.divisors.specs.declared.fraction.Fraction.{Fraction}
use Rattle.divisors.specs.declared.row.Row.{Row}
use Rattle.divisors.specs.Rows.{fractions}
use Rattle.divisors.specs.Written.{are_in_range}
use Rattle.leaf.specs.Fields.{Shape, byte, number}
use Rattle.leaf.specs.Headed.{Headed, MadeLeaf, WrittenLeaf, headed_layout, signed_flags}
use Rattle.leaf.specs.Layouts.{Layout}
use Rattle.leaf.specs.Numbers.{are_flags}
use Rattle.leaf.specs.Plans.{Table, Plan, done, ask, then, field, repeat, all_numbers}
use Rattle.amounts.specs.declared.amount.WrittenAmount.{WrittenAmount}
use Rattle.amounts.specs.declared.amount_leaf.AmountLeaf.{AmountLeaf}
use Rattle.amounts.specs.Leaves.{is_window, leaf_of}
use Rattle.amounts.specs.Making.{amount_in}
use Rattle.amounts.specs.Values.{amount_of}

-- the fields: the flags, a bound's magnitude under its sign, a count of divisors, a numerator or denominator
pub data Role : Type 0 where
  flags : Role
  magnitude : Bool → Role
  count : Role
  part : Role

abbrev pub shape_of : Role → Shape
shape_of flags = byte
shape_of (magnitude negative) = number
shape_of count = number
shape_of part = number

-- 1 to 2^63 - 1
abbrev pub is_part : ℕ → Bool
is_part n = nat_lt 0 n && nat_lt n (2 ^ 63)

abbrev pub fits_in : Role → ℕ → Bool
fits_in flags f = are_flags true f
fits_in (magnitude negative) m = is_some (amount_of negative m)
fits_in count n = nat_le n 6
fits_in part n = is_part n

abbrev pub refusal_in : Role → ℕ
refusal_in flags = 4
refusal_in (magnitude negative) = 7
refusal_in count = 6
refusal_in part = 5

-- each names its own first byte
abbrev pub amount_table : Table Role
amount_table = record { shape = shape_of; fits = fits_in; refusal = refusal_in; named = λ r at. at }

-- an amount: a magnitude under the sign that the flags give it
unfoldable pub amount : Bool → Plan Role (Option ℤ)
amount negative = ask (magnitude negative) (λ _ m. done (amount_of negative m))

abbrev pub divisor : Plan Role Fraction
divisor = then (field part) (λ p. then (field part) (λ q. done (record { p = p; q = q })))

-- a count, and as many divisors
unfoldable pub list : Plan Role (List Fraction)
list = ask count (λ _ n. repeat divisor n)

-- the required list, then the barred one
abbrev pub lists : Plan Role (List Fraction × List Fraction)
lists = then list (λ ws. then list (λ us. done (ws, us)))

-- a bound and a divisor as written
abbrev pub is_written : WrittenAmount → Bool
is_written w = is_some (amount_in w)

abbrev pub sign_of : WrittenAmount → Bool
sign_of w = w.negative

abbrev pub divisor_numbers : Fraction → List ℕ
divisor_numbers f = f.p ∷ f.q ∷ []

abbrev pub list_numbers : List Fraction → List ℕ
list_numbers fs = length fs ∷ all_numbers divisor_numbers fs

-- lists of at most six divisors of parts in range
abbrev pub is_list : List Fraction → Bool
is_list fs = are_in_range fs && nat_le (length fs) 6

-- behind the flags come the magnitudes of the bounds that they name, then both lists
abbrev pub amount_fields : Headed Role ℤ WrittenAmount (List Fraction × List Fraction) (List Fraction × List Fraction)
amount_fields = record {
  table = amount_table;
  flags = flags;
  bound = amount;
  rest = lists;
  bound_numbers = λ w. w.magnitude ∷ [];
  is_bound = is_written;
  value = amount_in;
  flags_of = signed_flags sign_of;
  rest_numbers = λ p. list_numbers p.0 ++ list_numbers p.1;
  is_rest = λ p. is_list p.0 && is_list p.1;
  rest_value = λ p. p;
}

-- a leaf as written, and what its fields make
abbrev pub Written : Type 0
Written = WrittenLeaf WrittenAmount (List Fraction × List Fraction)

abbrev pub Made : Type 0
Made = MadeLeaf ℤ (List Fraction × List Fraction)

abbrev pub amount_layout : Layout Role Written Made AmountLeaf
amount_layout = headed_layout amount_fields is_window (λ bounds p. leaf_of bounds.minimum bounds.maximum p.0 p.1)

-- what two rows hold
abbrev pub both_lists : Row × Row → List Fraction × List Fraction
both_lists rows = (fractions rows.0, fractions rows.1)
