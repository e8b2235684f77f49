-- What the test of a folded row tells.
use Rattle.std.proofs.Common.{◌≡◌, ◌^◌, true, ◌&&◌, eqb, ltb, List, [], ◌∷◌, refl}
use Rattle.std.proofs.lemmas.Bool.{and_parts, and_from, ltb-true, eqb-true, lt-ltb, eq-eqb}
use Rattle.std.specs.List.{AllByRecursion}
use Rattle.divisors.specs.declared.fraction.Fraction.{Fraction}
use Rattle.divisors.specs.Fractions.{Reduced, is_reduced}
use Rattle.divisors.specs.Lists.{are_reduced}
use Rattle.divisors.specs.Whole.{gcd_of}

pub reduced_if : (f : Fraction) → is_reduced f ≡ true → Reduced f
reduced_if f e =
    let a = and_parts (ltb 0 f.p) (ltb f.p (2 ^ 63) && (ltb 0 f.q && (ltb f.q (2 ^ 63) && eqb (gcd_of f.p f.q) 1))) e in
    let b = and_parts (ltb f.p (2 ^ 63)) (ltb 0 f.q && (ltb f.q (2 ^ 63) && eqb (gcd_of f.p f.q) 1)) a.1 in
    let c = and_parts (ltb 0 f.q) (ltb f.q (2 ^ 63) && eqb (gcd_of f.p f.q) 1) b.1 in
    let d = and_parts (ltb f.q (2 ^ 63)) (eqb (gcd_of f.p f.q) 1) c.1 in
    record {
      p_low = ltb-true 0 f.p a.0;
      p_high = ltb-true f.p (2 ^ 63) b.0;
      q_low = ltb-true 0 f.q c.0;
      q_high = ltb-true f.q (2 ^ 63) d.0;
      coprime = eqb-true (gcd_of f.p f.q) 1 d.1;
    }

pub all_reduced : (xs : List Fraction) → are_reduced xs ≡ true → AllByRecursion Reduced xs
all_reduced [] e = tt
all_reduced (x ∷ xs) e = let u = and_parts (is_reduced x) (are_reduced xs) e in (reduced_if x u.0, all_reduced xs u.1)

if_reduced : (f : Fraction) → Reduced f → is_reduced f ≡ true
if_reduced f r =
    and_from (ltb 0 f.p) (ltb f.p (2 ^ 63) && (ltb 0 f.q && (ltb f.q (2 ^ 63) && eqb (gcd_of f.p f.q) 1))) (lt-ltb 0 f.p r.p_low)
    (and_from (ltb f.p (2 ^ 63)) (ltb 0 f.q && (ltb f.q (2 ^ 63) && eqb (gcd_of f.p f.q) 1)) (lt-ltb f.p (2 ^ 63) r.p_high)
    (and_from (ltb 0 f.q) (ltb f.q (2 ^ 63) && eqb (gcd_of f.p f.q) 1) (lt-ltb 0 f.q r.q_low)
    (and_from (ltb f.q (2 ^ 63)) (eqb (gcd_of f.p f.q) 1) (lt-ltb f.q (2 ^ 63) r.q_high) (eq-eqb (gcd_of f.p f.q) 1 r.coprime))))

pub reduced_all : (xs : List Fraction) → AllByRecursion Reduced xs → are_reduced xs ≡ true
reduced_all [] h = refl
reduced_all (x ∷ xs) h = and_from (is_reduced x) (are_reduced xs) (if_reduced x h.0) (reduced_all xs h.1)
