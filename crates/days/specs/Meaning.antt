-- What a day leaf admits: what it means as it is written.
use Rattle.std.specs.Prelude.{ℕ, Decides, Option}
use Rattle.leaf.specs.Layouts.{written_leaf}
use Rattle.leaf.specs.Kind.{admits}
use Rattle.days.specs.declared.day_leaf.DayLeaf.{DayLeaf}
use Rattle.days.specs.Days.{days}
use Rattle.days.specs.Layout.{Written, day_layout}
use Rattle.days.specs.Words.{Meant, value_of}

-- a leaf admits exactly the days that what was written means
abbrev pub Means : Option ℕ → Option ℕ → ℕ → DayLeaf → Type 0
Means low high set a = (d : ℕ) → Decides (admits days a d) (Meant low high set d)

-- a leaf as written admits exactly what its dates and weekdays mean
unfoldable pub WrittenMeans : Type 0
WrittenMeans = (w : Written) → Means (value_of w.low) (value_of w.high) w.rest (written_leaf day_layout w)
