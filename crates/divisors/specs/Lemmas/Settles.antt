-- What a fold ends with is settled; no one of a settled row divides another.
use Rattle.std.proofs.Common.{◌≡◌, ℕ, suc, ◌*◌, ◌<◌, ◌≤◌, true, not, ◌&&◌, ltb, List, [], ◌∷◌, length, get_or, take, drop, set, is_some, Some, None, Option, sym, refl, ap, ◌∙◌, subst, ⊎_elim, mul-one, arith}
use Prim.Native.Nat.{◌∣◌}
use native.Mathlib.Nat.{le_of_dvd, dvd_of_mod-eq-zero}
use Rattle.std.specs.List.{AllByRecursion}
use Rattle.std.proofs.ByRecursion.{All-append, All-take, All-drop, All-set, All-get_or}
use Rattle.std.proofs.lemmas.Bool.{and_parts, and_from, ltb-true, lt-ltb, cases_lt, cases_order}
use Rattle.divisors.specs.declared.folding.Pair.{Pair}
use Rattle.divisors.specs.declared.folding.Strip.{Strip}
use Rattle.divisors.specs.declared.fraction.Fraction.{Fraction}
use Rattle.divisors.specs.Folding.{FirstJoin, FirstStrip, FoldsTo, NoJoin, NoStrip, StepsTo, done, joined_by, joins, stepped, stripped_by, strips}
use Rattle.divisors.specs.Fractions.{Reduced, none}
use Rattle.divisors.specs.Dividing.{divides}
use Rattle.divisors.specs.Joining.{join_of, strip_by}
use Rattle.divisors.specs.Lists.{are_reduced, ascends}
use Rattle.divisors.specs.Settled.{alone, are_more, firm, joinless, settled, stripless}
use Rattle.divisors.specs.Shared.{rest_of, shared_of}
use Rattle.divisors.specs.Whole.{lcm_of}
use Rattle.divisors.specs.Lemmas.Gcds.{lcm_is}
use Rattle.divisors.specs.Lemmas.Primes.{rest_is, rest_pos}
use Rattle.divisors.specs.Lemmas.Joins.{join_parts, join_reduced}
use Rattle.divisors.specs.Lemmas.Strips.{strip_parts, strip_rest}
use Rattle.divisors.specs.Lemmas.Tidied.{all_tidied}
use Rattle.divisors.specs.Lemmas.Admits.{step_reduced}
use Rattle.divisors.specs.Lemmas.Ascends.{Lower, ascends_pairs}
use Rattle.divisors.specs.Lemmas.Reducing.{all_reduced, reduced_all}
use Rattle.divisors.specs.Lemmas.Members.{In, Pairs, all_in, in_all, every_in, in_every, every_at, pairs_two}
use Rattle.divisors.specs.Lemmas.Divides.{divides_parts, join_left, join_right}

abbrev pub More : Fraction → Type 0
More f = 1 < f.p

absent : {A : Type 0} (o : Option A) → o ≡ None → not (is_some o) ≡ true
absent None e = refl
absent (Some x) e = let z : ◌≡◌ {A = ℕ} 0 1 = cc in absurd (omega arith)

none_of : {A : Type 0} (o : Option A) → not (is_some o) ≡ true → o ≡ None
none_of None e = refl
none_of (Some x) e = cc

pub joinless_if : (xs : List Fraction) → NoJoin xs → joinless xs ≡ true
joinless_if [] n = refl
joinless_if (x ∷ xs) n =
    and_from (alone x xs) (joinless xs)
    (every_at (λ g. not (is_some (join_of x g))) xs (λ k h. absent (join_of x (get_or xs k none)) (n 0 (suc k) (omega arith) (omega arith))))
    (joinless_if xs (λ i k a b. n (suc i) (suc k) (omega arith) (omega arith)))

pub stripless_if : (xs : List Fraction) → NoStrip xs → stripless xs ≡ true
stripless_if [] n = refl
stripless_if (x ∷ xs) n =
    and_from (firm x xs) (stripless xs)
    (every_at (λ g. not (is_some (strip_by x g)) && not (is_some (strip_by g x))) xs
    (λ k h.
    and_from (not (is_some (strip_by x (get_or xs k none)))) (not (is_some (strip_by (get_or xs k none) x)))
    (absent (strip_by x (get_or xs k none)) (n 0 (suc k) (omega arith) (omega arith) (λ e. omega arith)))
    (absent (strip_by (get_or xs k none) x) (n (suc k) 0 (omega arith) (omega arith) (λ e. omega arith)))))
    (stripless_if xs (λ i k a b d. n (suc i) (suc k) (omega arith) (omega arith) (λ e. d (omega arith))))

at : (P : Fraction → Type 0) (xs : List Fraction) → AllByRecursion P xs → (i : ℕ) → i < length xs → P (get_or xs i none)
at P xs h i l = All-get_or P xs i none l h

-- a join's numerator is above 1
join_more : (a b j : Fraction) → Reduced a → Reduced b → More a → join_of a b ≡ Some j → More j
join_more a b j ra rb m e =
    let k = join_parts a b j e in
    let rj = join_reduced a b j ra rb e in
    let jp : j.p ≡ lcm_of a.p b.p = ap (λ (f : Fraction). f.p) k.0 in
    let l : a.p ≤ lcm_of a.p b.p = le_of_dvd (subst (λ (x : ℕ). 0 < x) jp rj.p_low) (lcm_is a.p b.p).left in
    omega arith

-- a strip that leaves 1 was a join
strip_more : (a b f : Fraction) → Reduced a → Reduced b → strip_by a b ≡ Some f → (a.p ∣ b.p → ⊥) → More f
strip_more a b f ra rb e no-dvd =
    let t = strip_parts a b f e in
    let s = shared_of a.p b.p in
    let r : f.p ≡ rest_of a.p b.p = strip_rest a b f t in
    let low : 0 < rest_of a.p b.p = rest_pos a.p b.p t.low in
    ⊎_elim (λ l. l)
    (λ l.
    let one : rest_of a.p b.p ≡ 1 = omega arith in
    let whole : a.p ≡ s = (rest_is a.p b.p t.low).product ∙ ap (λ (x : ℕ). s * x) one ∙ mul-one s in
    absurd (no-dvd (subst (λ (x : ℕ). x ∣ b.p) (sym whole) (dvd_of_mod-eq-zero s t.divides))))
    (cases_lt 1 f.p)

joined_more : (xs : List Fraction) (t : Pair) → AllByRecursion Reduced xs → AllByRecursion More xs → FirstJoin xs t → AllByRecursion More (joined_by t xs)
joined_more xs t h m f =
    let j = join_more (get_or xs t.left none) (get_or xs t.right none) t.join (at Reduced xs h t.left (omega (arith, f.ordered, f.within))) (at Reduced xs h t.right f.within) (at More xs m t.left (omega (arith, f.ordered, f.within))) f.joins in
    let ys = set xs t.left t.join in
    let s = All-set More xs t.left t.join j m in
    All-append More (take t.right ys) (drop (suc t.right) ys) (All-take More t.right ys s) (All-drop More (suc t.right) ys s)

stripped_more : (xs : List Fraction) (t : Strip) → AllByRecursion Reduced xs → AllByRecursion More xs → NoJoin xs → FirstStrip xs t → AllByRecursion More (stripped_by t xs)
stripped_more xs t h m n f =
    let a = get_or xs t.at none in
    let b = get_or xs t.by none in
    let ra = at Reduced xs h t.at f.within in
    let rb = at Reduced xs h t.by f.by_within in
    All-set More xs t.at t.left
    (strip_more a b t.left ra rb f.strips
    (λ d.
    ⊎_elim (λ e. f.other e)
    (λ o.
    ⊎_elim (λ l. join_right a b ra rb d (n t.at t.by l f.by_within))
    (λ l. join_left a b ra rb d (n t.by t.at l f.within)) o)
    (cases_order t.at t.by)))
    m

step_more : (xs ys : List Fraction) → AllByRecursion Reduced xs → AllByRecursion More xs → StepsTo xs ys → AllByRecursion More ys
step_more xs ys h m (joins j) = all_tidied (joined_by j.pair xs) ys j.tidies More (joined_more xs j.pair h m j.first)
step_more xs ys h m (strips s) = all_tidied (stripped_by s.strip xs) ys s.tidies More (stripped_more xs s.strip h m s.joinless s.first)

pub step_rises : (xs ys : List Fraction) → StepsTo xs ys → ascends ys ≡ true
step_rises xs ys (joins j) = j.tidies.rising
step_rises xs ys (strips s) = s.tidies.rising

-- what a row of reduced fractions with numerators above 1 folds to
pub fold_settled : (xs ys : List Fraction) → FoldsTo xs ys → AllByRecursion Reduced xs → AllByRecursion More xs → ascends xs ≡ true → settled ys ≡ true
fold_settled xs ys (done n m) h g a =
    and_from (are_reduced xs) (are_more xs && (ascends xs && (joinless xs && stripless xs))) (reduced_all xs h)
    (and_from (are_more xs) (ascends xs && (joinless xs && stripless xs)) (in_every (λ f. ltb 1 f.p) xs (λ x i. lt-ltb 1 x.p (all_in More xs g x i)))
    (and_from (ascends xs) (joinless xs && stripless xs) a (and_from (joinless xs) (stripless xs) (joinless_if xs n) (stripless_if xs m))))
fold_settled xs ys (stepped {ys = zs} s r) h g a = fold_settled zs ys r (step_reduced xs zs h s) (step_more xs zs h g s) (step_rises xs zs s)

-- the parts of the test
pub record Settled (xs : List Fraction) : Type 0 where
  pub reduced : AllByRecursion Reduced xs
  pub more : AllByRecursion More xs
  pub rising : Pairs Lower xs
  pub apart : Pairs (λ a b. join_of a b ≡ None) xs
  pub firm : Pairs (λ a b. (strip_by a b ≡ None) × (strip_by b a ≡ None)) xs

apart_pairs : (xs : List Fraction) → joinless xs ≡ true → Pairs (λ a b. join_of a b ≡ None) xs
apart_pairs [] e = tt
apart_pairs (x ∷ xs) e =
    let u = and_parts (alone x xs) (joinless xs) e in
    (in_all (λ b. join_of x b ≡ None) xs (λ y i. none_of (join_of x y) (every_in (λ g. not (is_some (join_of x g))) xs u.0 y i)), apart_pairs xs u.1)

firm_pairs : (xs : List Fraction) → stripless xs ≡ true → Pairs (λ a b. (strip_by a b ≡ None) × (strip_by b a ≡ None)) xs
firm_pairs [] e = tt
firm_pairs (x ∷ xs) e =
    let u = and_parts (firm x xs) (stripless xs) e in (
      in_all (λ b. (strip_by x b ≡ None) × (strip_by b x ≡ None)) xs
          (λ y i.
          let w = and_parts (not (is_some (strip_by x y))) (not (is_some (strip_by y x))) (every_in (λ g. not (is_some (strip_by x g)) && not (is_some (strip_by g x))) xs u.0 y i) in
          (none_of (strip_by x y) w.0, none_of (strip_by y x) w.1)),
      firm_pairs xs u.1,
    )

pub settled_parts : (xs : List Fraction) → settled xs ≡ true → Settled xs
settled_parts xs e =
    let a = and_parts (are_reduced xs) (are_more xs && (ascends xs && (joinless xs && stripless xs))) e in
    let b = and_parts (are_more xs) (ascends xs && (joinless xs && stripless xs)) a.1 in
    let c = and_parts (ascends xs) (joinless xs && stripless xs) b.1 in
    let d = and_parts (joinless xs) (stripless xs) c.1 in
    let r = all_reduced xs a.0 in
    record {
      reduced = r;
      more = in_all More xs (λ x i. ltb-true 1 x.p (every_in (λ f. ltb 1 f.p) xs b.0 x i));
      rising = ascends_pairs xs r c.0;
      apart = apart_pairs xs d.0;
      firm = firm_pairs xs d.1;
    }

-- no one of the row divides another
abbrev pub Clear : List Fraction → Type 0
Clear xs = (x y : Fraction) → In x xs → In y xs → divides x y ≡ true → x ≡ y

-- their join would be there
pub settled_clear : (xs : List Fraction) → settled xs ≡ true → Clear xs
settled_clear xs e x y i j d =
    let s = settled_parts xs e in
    let rx = all_in Reduced xs s.reduced x i in
    let ry = all_in Reduced xs s.reduced y j in
    ⊎_elim (λ k. k)
    (λ o. absurd (⊎_elim (λ n. join_right x y rx ry (divides_parts x y d).0 n) (λ n. join_left x y rx ry (divides_parts x y d).0 n) o))
    (pairs_two (λ a b. join_of a b ≡ None) xs s.apart x y i j)
