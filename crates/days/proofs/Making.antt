-- The maker of day leaves by its tests.
use Rattle.std.specs.Prelude.{◌≡◌, ℕ, cond, [], ◌∷◌, Ok, Err, Option, Result, nat_le, refl}
use Rattle.std.proofs.Common.{sym, ap, subst, ◌∙◌}
use Rattle.faults.specs.Faults.{Refused, then, unplaced}
use Rattle.leaf.specs.Tests.{Decided, decided, window_tests}
use Rattle.leaf.specs.Windows.{written}
use Rattle.leaf.specs.declared.bounds.Bounds.{Bounds}
use Rattle.leaf.specs.Laws.Deciding.{decides, then_decided, window_decided}
use Rattle.days.specs.declared.calendar.Date.{Date}
use Rattle.days.specs.declared.day_leaf.DayLeaf.{DayLeaf}
use Rattle.days.specs.Leaves.{leaf_of}
use Rattle.days.specs.Making.{MakerJudged, day_tests, made_of, numbered}
use Rattle.days.specs.Weekdays.{is_set}

made_decided : (low high : Option Date) (set : ℕ) → made_of low high set ≡ decided (day_tests low high set) (leaf_of (written numbered low) (written numbered high) set)
made_decided low high set =
    let leaf = leaf_of (written numbered low) (written numbered high) set in
    let make : Bounds ℕ → Result DayLeaf Refused = λ w. cond (is_set set) (Ok (leaf_of w.minimum w.maximum set)) (Err (unplaced 9)) in
    ap (λ (r : Result (Bounds ℕ) Refused). then r make) (window_decided numbered nat_le low high)
    ∙ then_decided (window_tests numbered nat_le low high) (record { holds = is_set set; number = 9 } ∷ []) (record { minimum = written numbered low; maximum = written numbered high }) make leaf refl

pub maker_judged : MakerJudged
unfolding MakerJudged
maker_judged low high set =
    let leaf = leaf_of (written numbered low) (written numbered high) set in
    subst (Decided (day_tests low high set) leaf) (sym (made_decided low high set)) (decides (day_tests low high set) leaf)
