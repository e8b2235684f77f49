-- What the computed join and the computed strip mean.
use Rattle.std.proofs.Common.{◌≡◌, ℕ, ◌-◌, ◌*◌, ◌/◌, ◌^◌, true, ◌&&◌, eqb, ltb, leb, nat_abs, Some, None, Option, sym, refl, ap, ◌∙◌, subst, arith}
use native.Mathlib.Nat.{mod-eq-zero_of_dvd, dvd_of_mod-eq-zero, mul-div_cancel'}
use Rattle.std.specs.Option.{option_map}
use Rattle.std.proofs.lemmas.Bool.{and_from, cond_both, cond-true, eq-eqb, false≢true, leb-false, leb-true, lt-ltb, true≢false}
use Rattle.divisors.specs.declared.fraction.Fraction.{Fraction}
use Rattle.divisors.specs.Joining.{IsJoin, IsStrip, Strips, join_of, strip_by}
use Rattle.divisors.specs.Shared.{shared_of, strip_of}
use Rattle.divisors.specs.Whole.{gcd_of, lcm_of}
use Rattle.divisors.specs.Lemmas.Firsts.{clash}
use Rattle.divisors.specs.Lemmas.Gcds.{gcd_is, lcm_is}
use Rattle.divisors.specs.Lemmas.Joins.{join_multiple}
use Rattle.divisors.specs.Lemmas.Primes.{shared_is, strip_some}
use Rattle.divisors.specs.Lemmas.Signs.{multiple_of}
use Rattle.divisors.specs.Lemmas.Strips.{strip_multiple, strip_parts}

pub is_join : (a b : Fraction) → IsJoin a b (join_of a b)
is_join a b =
    cond_both (leb l (2 ^ 63 - 1)) (Some j) None (IsJoin a b)
    (λ t.
    let few = leb-true l (2 ^ 63 - 1) t in
    record {
      multiple = l;
      least = lcm_is a.p b.p;
      absent = (λ e. absurd (true≢false e), λ h. absurd (omega arith));
      parts = (refl, gcd_is a.q b.q);
      multiples = λ ra rb v.
          let m = join_multiple a b j (nat_abs v) ra rb (cond-true (leb l (2 ^ 63 - 1)) (Some j) None t) in
          let f = multiple_of j v in
          let g = multiple_of a v in
          let h = multiple_of b v in
          (λ k. let w = m.0 (f.0 k) in (g.1 w.0, h.1 w.1), λ k. f.1 (m.1 (g.0 k.0, h.0 k.1)));
    })
    (λ t.
    let many = leb-false l (2 ^ 63 - 1) t in
    record { multiple = l; least = lcm_is a.p b.p; absent = (λ _. omega arith, λ _. refl); parts = tt; multiples = λ _ _. tt })
  where
    l : ℕ
    l = lcm_of a.p b.p

    j : Fraction
    j = record { p = l; q = gcd_of a.q b.q }

pub joins_as : (a b : Fraction) (o : Option Fraction) → o ≡ join_of a b → IsJoin a b o
joins_as a b o e = subst (IsJoin a b) (sym e) (is_join a b)

pub is_strip : (a b : Fraction) → IsStrip a b (strip_by a b)
is_strip a b = go (strip_by a b) refl
  where
    s : ℕ
    s = shared_of a.p b.p

    whole : ℕ → Fraction
    whole n = record { p = n; q = 1 }

    there : Strips a b s → strip_by a b ≡ Some (whole (a.p / s))
    there k =
        let t : (eqb a.q 1 && (eqb b.q 1 && ltb 0 a.p)) ≡ true =
        and_from (eqb a.q 1) (eqb b.q 1 && ltb 0 a.p) (eq-eqb a.q 1 k.whole)
        (and_from (eqb b.q 1) (ltb 0 a.p) (eq-eqb b.q 1 k.by_whole) (lt-ltb 0 a.p k.low)) in
        cond-true (eqb a.q 1 && (eqb b.q 1 && ltb 0 a.p)) (option_map {T = ℕ} {U = Fraction} whole (strip_of a.p b.p)) None t
        ∙ ap (option_map {T = ℕ} {U = Fraction} whole) (sym (strip_some a.p b.p s refl k.more (mod-eq-zero_of_dvd s k.divides)))

    go : (o : Option Fraction) → strip_by a b ≡ o → IsStrip a b o
    go None e = record {
      shared = s;
      largest = shared_is a.p b.p;
      strips = (λ k. absurd (false≢true k), λ k. absurd (clash (strip_by a b) (whole (a.p / s)) e (there k)));
      parts = tt;
      multiples = tt;
    }
    go (Some f) e =
        let t = strip_parts a b f e in
        let p : a.p / s ≡ f.p = ap (λ (g : Fraction). g.p) t.is in
        record {
          shared = s;
          largest = shared_is a.p b.p;
          strips = (
            λ _. record { whole = t.whole; by_whole = t.by_whole; low = t.low; more = t.shares; divides = dvd_of_mod-eq-zero s t.divides },
            λ _. refl,
          );
          parts = (ap (λ (x : ℕ). s * x) (sym p) ∙ mul-div_cancel' s (shared_is a.p b.p t.low).divides, ap (λ (g : Fraction). g.q) (sym t.is));
          multiples = λ v m.
              let w = strip_multiple a b f (nat_abs v) e ((multiple_of b v).0 m) in
              (λ k. (multiple_of a v).1 (w.0 ((multiple_of f v).0 k)), λ k. (multiple_of f v).1 (w.1 ((multiple_of a v).0 k)));
        }

pub strips_as : (a b : Fraction) (o : Option Fraction) → o ≡ strip_by a b → IsStrip a b o
strips_as a b o e = subst (IsStrip a b) (sym e) (is_strip a b)
