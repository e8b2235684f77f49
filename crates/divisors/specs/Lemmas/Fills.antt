-- Free places, and written divisors in range.
use Rattle.std.proofs.Common.{◌≡◌, ℕ, ◌+◌, ◌^◌, ◌<◌, true, ◌&&◌, ltb, List, length, get_or, drop, set, sym, ap, ◌∙◌, arith}
use Rattle.std.specs.List.{AllByRecursion}
use Rattle.std.proofs.lemmas.List.{at_drop_more, drop-set-lt}
use Rattle.std.proofs.lemmas.Bool.{and_parts, ltb-true}
use Rattle.divisors.specs.declared.fraction.Fraction.{Fraction}
use Rattle.divisors.specs.Fractions.{InRange, in_range, none, same}
use Rattle.divisors.specs.Lists.{every}
use Rattle.divisors.specs.Written.{are_in_range}
use Rattle.divisors.specs.Lemmas.Members.{every_in, in_all}

-- a place on in the copy: what stands behind is blank
pub blank_more : (items : List Fraction) (k : ℕ) (f : Fraction) → k < length items → every (λ g. same g none) (drop k items) ≡ true → every (λ g. same g none) (drop (k + 1) (set items k f)) ≡ true
blank_more items k f h e =
    let w = sym (at_drop_more (every (λ g. same g none)) items k none h) ∙ e in
    ap (every (λ g. same g none)) (drop-set-lt (k + 1) items k f (omega arith)) ∙ (and_parts (same (get_or items k none) none) (every (λ g. same g none) (drop (k + 1) items)) w).1

pub in_range_lem : (f : Fraction) → in_range f ≡ true → InRange f
in_range_lem f e =
    let a = and_parts (ltb 0 f.p) (ltb f.p (2 ^ 63) && (ltb 0 f.q && ltb f.q (2 ^ 63))) e in
    let b = and_parts (ltb f.p (2 ^ 63)) (ltb 0 f.q && ltb f.q (2 ^ 63)) a.1 in
    let c = and_parts (ltb 0 f.q) (ltb f.q (2 ^ 63)) b.1 in
    record {
      p_low = ltb-true 0 f.p a.0;
      p_high = ltb-true f.p (2 ^ 63) b.0;
      q_low = ltb-true 0 f.q c.0;
      q_high = ltb-true f.q (2 ^ 63) c.1;
    }

pub all_in_range : (ws : List Fraction) → are_in_range ws ≡ true → AllByRecursion InRange ws
all_in_range ws e = in_all InRange ws (λ w i. in_range_lem w (every_in in_range ws e w i))
