-- The laws hold.
use Rattle.std.specs.Prelude.{unsigned_abs, refl}
use Rattle.std.proofs.Common.{inl, inr, ⊎_elim, arith}
use Rattle.std.proofs.lemmas.Bool.{cases_Bool}
use Rattle.divisors.specs.Folding.{fold_in, fold_of}
use Rattle.divisors.specs.Laws.{BarredLaws, KeptLaws, OrderLaws, RequiredLaws, TestsMean, WorkedDivides, WorkedFolds}
use Rattle.divisors.specs.Lists.{at_most, put, tidy_of}
use Rattle.divisors.specs.Shared.{rest_in, rest_of, shared_of}
use Rattle.divisors.specs.Whole.{gcd_in, gcd_of, lcm_of}
use Rattle.divisors.specs.Written.{required_of}
use Rattle.divisors.specs.Lemmas.AtMost.{up_refl, up_tie, up_total, up_trans}
use Rattle.divisors.specs.Lemmas.Covers.{bar_anti, bar_refl, bar_spares, bar_trans, divide_admits, divide_anti, divide_refl, divide_trans}
use Rattle.divisors.specs.Lemmas.Reducing.{all_reduced, reduced_all}
use Rattle.divisors.specs.Lemmas.Settles.{settled_clear, settled_parts}
use Rattle.divisors.specs.Lemmas.Signs.{admits_of, spares_of}
use Rattle.divisors.specs.Lemmas.Makes.{kept_laws as kept}
use Rattle.divisors.specs.Lemmas.Tests.{tests_mean as tests}
use Rattle.divisors.specs.Lemmas.Thins.{thinned_parts}

pub order_laws : OrderLaws
order_laws =
    record {
      reflexive = up_refl;
      total = λ xs ys. ⊎_elim inl (λ n. inr (up_total xs ys n)) (cases_Bool (at_most xs ys));
      transitive = λ xs ys zs a b c. up_trans xs ys zs (all_reduced xs a) (all_reduced ys b) (all_reduced zs c);
      antisymmetric = λ xs ys a b. up_tie xs ys (all_reduced xs a) (all_reduced ys b);
    }

pub required_laws : RequiredLaws
required_laws =
    record {
      reduced = λ xs a. reduced_all xs (settled_parts xs a).reduced;
      reflexive = λ xs a. divide_refl xs (settled_parts xs a).reduced;
      transitive = λ xs ys zs a c. divide_trans xs ys zs (settled_parts xs a).reduced (settled_parts zs c).reduced;
      antisymmetric =
          λ xs ys a b.
          let s = settled_parts xs a in
          let t = settled_parts ys b in
          divide_anti xs ys s.reduced t.reduced (settled_clear xs a) (settled_clear ys b) s.rising t.rising;
      no_more =
          λ xs ys a b h v m.
          (admits_of xs v).1 (divide_admits xs ys (unsigned_abs v) (settled_parts xs a).reduced (settled_parts ys b).reduced h ((admits_of ys v).0 m));
    }

pub barred_laws : BarredLaws
barred_laws =
    record {
      reduced = λ xs a. reduced_all xs (thinned_parts xs a).reduced;
      reflexive = λ xs a. bar_refl xs (thinned_parts xs a).reduced;
      transitive = λ xs ys zs a c. bar_trans xs ys zs (thinned_parts xs a).reduced (thinned_parts zs c).reduced;
      antisymmetric =
          λ xs ys a b.
          let s = thinned_parts xs a in
          let t = thinned_parts ys b in
          bar_anti xs ys s.reduced t.reduced s.clear t.clear s.rising t.rising;
      no_more =
          λ xs ys a b h v m.
          (spares_of xs v).1 (bar_spares xs ys (unsigned_abs v) (thinned_parts xs a).reduced (thinned_parts ys b).reduced h ((spares_of ys v).0 m));
    }

pub tests_mean : TestsMean
tests_mean = tests

pub kept_laws : KeptLaws
kept_laws = kept

pub worked_folds : WorkedFolds
unfolding required_of fold_of fold_in tidy_of put lcm_of gcd_of gcd_in shared_of rest_of rest_in
worked_folds = record { joins = refl; strips = refl }

pub worked_divides : WorkedDivides
worked_divides = record {
  unreduced = record { low = omega arith; other_low = omega arith; times = 1; whole = refl };
  turned = record { low = omega arith; other_low = omega arith; times = 1; whole = refl };
}
