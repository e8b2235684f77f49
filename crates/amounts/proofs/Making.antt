-- The maker of amount leaves by its tests.
use Rattle.std.specs.Prelude.{◌≡◌, Bool, true, false, cond, ◌&&◌, List, [], length, ℤ, Some, None, Ok, Err, Option, Result, nat_le, refl}
use Rattle.std.specs.Int.Signed.{le_z}
use Rattle.std.proofs.Common.{sym, ap, subst, ◌∙◌}
use Rattle.divisors.specs.declared.fraction.Fraction.{Fraction}
use Rattle.divisors.specs.Written.{are_in_range, refusal_of_both}
use Rattle.faults.specs.Faults.{Refused, then, unplaced}
use Rattle.leaf.specs.Tests.{Decided, decided, window_tests}
use Rattle.leaf.specs.Windows.{written}
use Rattle.leaf.specs.declared.bounds.Bounds.{Bounds}
use Rattle.leaf.specs.Laws.Deciding.{decides, then_decided, window_decided}
use Rattle.amounts.specs.declared.amount.WrittenAmount.{WrittenAmount}
use Rattle.amounts.specs.declared.amount_leaf.AmountLeaf.{AmountLeaf}
use Rattle.amounts.specs.Leaves.{leaf_of}
use Rattle.amounts.specs.Making.{MakerJudged, after, amount_in, amount_tests, made_of, window_of}

after_tests : {A : Type 0} (p q : Bool) (r : Result A Refused) → after (cond p (cond q None (Some (unplaced 6))) (Some (unplaced 5))) r ≡ cond p (cond q r (Err (unplaced 6))) (Err (unplaced 5))
after_tests false q r = refl
after_tests true false r = refl
after_tests true true r = refl

made_decided : (low high : Option WrittenAmount) (ws us : List Fraction) → made_of low high ws us ≡ decided (amount_tests low high ws us) (leaf_of (written amount_in low) (written amount_in high) ws us)
made_decided low high ws us =
    let leaf = leaf_of (written amount_in low) (written amount_in high) ws us in
    let make : Bounds ℤ → Result AmountLeaf Refused = λ w. Ok (leaf_of w.minimum w.maximum ws us) in
    let window : then (window_of low high) make ≡ decided (window_tests amount_in le_z low high) leaf =
    ap (λ (r : Result (Bounds ℤ) Refused). then r make) (window_decided amount_in le_z low high)
    ∙ (then_decided (window_tests amount_in le_z low high) [] (record { minimum = written amount_in low; maximum = written amount_in high }) make leaf refl) in
    ap (after (refusal_of_both ws us)) window
    ∙ after_tests (are_in_range ws && are_in_range us) (nat_le (length ws) 6 && nat_le (length us) 6) (decided (window_tests amount_in le_z low high) leaf)

pub maker_judged : MakerJudged
unfolding MakerJudged
maker_judged low high ws us =
    let leaf = leaf_of (written amount_in low) (written amount_in high) ws us in
    subst (Decided (amount_tests low high ws us) leaf) (sym (made_decided low high ws us)) (decides (amount_tests low high ws us) leaf)
