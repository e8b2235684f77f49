-- A list in front of six places.
use Rattle.std.proofs.Common.{◌≡◌, ℕ, ◌≤◌, List, ◌++◌, length, drop, replicate, sym, ap, refl, ◌∙◌}
use Rattle.std.proofs.lemmas.List.{drop_at, drop-replicate, take_at}
use Rattle.divisors.specs.declared.fraction.Fraction.{Fraction}
use Rattle.divisors.specs.Fractions.{none}
use Rattle.foreign.specs.Shown.{Hands}

pub handed : (xs front : List Fraction) (n : ℕ) → front ≡ xs → n ≡ length xs → n ≤ 6 → Hands xs (record { places = front ++ drop n (replicate 6 none); count = n; refusal = 0 })
handed xs front n e l few =
    let rest = drop n (replicate 6 none) in
    let m : length front ≡ n = ap length e ∙ sym l in
    record {
      refusal = refl;
      few = few;
      kept = take_at front rest n m ∙ e;
      free = drop_at front rest n m ∙ drop-replicate n 6 none;
    }
