-- The steps of folding, as the code takes them.
use Rattle.std.proofs.Common.{◌≡◌, ℕ, ◌<◌, ◌≤◌, Bool, true, false, List, drop, length, sym, ap, subst, ◌∙◌}
use Rattle.std.proofs.lemmas.List.{drop_all}
use Rattle.std.specs.Bool.{OnTrue}
use Rattle.divisors.specs.declared.folding.Pair.{Pair}
use Rattle.divisors.specs.declared.folding.Strip.{Strip}
use Rattle.divisors.specs.declared.fraction.Fraction.{Fraction}
use Rattle.divisors.specs.Folding.{FirstJoin, FirstStrip, FoldsTo, JoinsTo, NoJoin, NoStrip, StripsTo, TellsJoin, TellsStep, TellsStrip, done, joined_by, joins, stepped, stripped_by, strips, weight}
use Rattle.divisors.specs.Fractions.{Reduced}
use Rattle.divisors.specs.Lists.{IsTidy, Tidies, are_reduced, put_all, tidy_of}
use Rattle.divisors.specs.Written.{are_in_range, lowest_above}
use Rattle.divisors.specs.Lemmas.Admits.{joined_reduced, stripped_reduced}
use Rattle.divisors.specs.Lemmas.Fills.{all_in_range}
use Rattle.divisors.specs.Lemmas.Folds.{step_weight}
use Rattle.divisors.specs.Lemmas.Kept.{lowest_reduced}
use Rattle.divisors.specs.Lemmas.Reducing.{all_reduced, reduced_all}
use Rattle.divisors.specs.Lemmas.Tidied.{all_tidied, tidies_of}

pub tidied : (xs ys : List Fraction) → ys ≡ tidy_of xs → are_reduced xs ≡ true → Tidies xs ys
tidied xs ys e r = subst (Tidies xs) (sym e) (tidies_of xs (all_reduced xs r))

pub still_tidy : (xs ys : List Fraction) → Tidies xs ys → are_reduced xs ≡ true → IsTidy ys
still_tidy xs ys t r = record { reduced = reduced_all ys (all_tidied xs ys t Reduced (all_reduced xs r)); rising = t.rising }

-- divisors as written in lowest terms, those with a numerator above n
pub written_reduced : (n : ℕ) (ws : List Fraction) → are_in_range ws ≡ true → are_reduced (lowest_above n ws) ≡ true
written_reduced n ws e = reduced_all (lowest_above n ws) (lowest_reduced n ws (all_in_range ws e))

pub join_reduced : (xs : List Fraction) (t : Pair) → FirstJoin xs t → IsTidy xs → are_reduced (joined_by t xs) ≡ true
join_reduced xs t f h = reduced_all (joined_by t xs) (joined_reduced xs t (all_reduced xs h.reduced) f)

pub strip_reduced : (xs : List Fraction) (t : Strip) → FirstStrip xs t → IsTidy xs → are_reduced (stripped_by t xs) ≡ true
strip_reduced xs t f h = reduced_all (stripped_by t xs) (stripped_reduced xs t (all_reduced xs h.reduced) f)

pub joins_to : (xs ys zs : List Fraction) (t : Pair) → FirstJoin xs t → ys ≡ joined_by t xs → Tidies ys zs → JoinsTo xs zs
joins_to xs ys zs t f e k = record { pair = t; first = f; tidies = subst (λ (us : List Fraction). Tidies us zs) e k }

pub strips_to : (xs ys zs : List Fraction) (t : Strip) → NoJoin xs → FirstStrip xs t → ys ≡ stripped_by t xs → Tidies ys zs → StripsTo xs zs
strips_to xs ys zs t n f e k = record { joinless = n; strip = t; first = f; tidies = subst (λ (us : List Fraction). Tidies us zs) e k }

pub lighter : (xs ys : List Fraction) (r : Bool) → IsTidy xs → TellsStep xs ys r → OnTrue r (weight ys < weight xs)
lighter xs ys true h s = step_weight xs (all_reduced xs h.reduced) ys s
lighter xs ys false h s = tt

pub by_join : (xs ys : List Fraction) (r : Bool) → r ≡ true → TellsJoin xs ys r → TellsStep xs ys r
by_join xs ys true e j = joins j
by_join xs ys false e j = let z : true ≡ false = sym e in cc

pub no_join : (xs ys : List Fraction) (r : Bool) → r ≡ false → TellsJoin xs ys r → NoJoin xs × (ys ≡ xs)
no_join xs ys true e j = cc
no_join xs ys false e j = j

pub by_strip : (xs ys zs : List Fraction) (r : Bool) → NoJoin xs × (ys ≡ xs) → TellsStrip ys zs r → TellsStep xs zs r
by_strip xs ys zs true n s = strips (subst (λ (us : List Fraction). StripsTo us zs) n.1 s)
by_strip xs ys zs false n s = (n.0, subst NoStrip n.1 s.0, s.1 ∙ n.1)

-- once all are put in
pub all_put : (xs ys us : List Fraction) (i : ℕ) → length xs ≤ i → put_all (drop i xs) ys ≡ us → ys ≡ us
all_put xs ys us i h e = sym (ap (λ (zs : List Fraction). put_all zs ys) (drop_all i xs h)) ∙ e

pub all_written : (n : ℕ) (ws ys us : List Fraction) (i : ℕ) → length ws ≤ i → put_all (lowest_above n (drop i ws)) ys ≡ us → ys ≡ us
all_written n ws ys us i h e = sym (ap (λ (zs : List Fraction). put_all (lowest_above n zs) ys) (drop_all i ws h)) ∙ e

-- a step more, and none
pub goes_on : (xs ys zs : List Fraction) (r : Bool) → r ≡ true → TellsStep xs ys r → FoldsTo ys zs → FoldsTo xs zs
goes_on xs ys zs true e s f = stepped s f
goes_on xs ys zs false e s f = let z : true ≡ false = sym e in cc

pub ends : (xs ys : List Fraction) (r : Bool) → r ≡ false → TellsStep xs ys r → FoldsTo xs ys
ends xs ys true e s = cc
ends xs ys false e s = subst (FoldsTo xs) (sym s.2) (done s.0 s.1)
