-- A folded row admits what the written one admits.
use Rattle.std.proofs.Common.{◌≡◌, ℕ, suc, ◌<◌, ◌↔◌, List, length, get_or, take, drop, set, sym, subst, ⊎_elim, arith}
use Rattle.std.specs.List.{remove, AllByRecursion}
use Rattle.std.proofs.lemmas.List.{length-set, get_or-set_same, get_or-set_other}
use Rattle.std.proofs.ByRecursion.{All-append, All-take, All-drop, All-set, All-get_or, All-from_get_or}
use Rattle.std.proofs.lemmas.Bool.{cases_eq}
use Rattle.divisors.specs.declared.folding.Pair.{Pair}
use Rattle.divisors.specs.declared.folding.Strip.{Strip}
use Rattle.divisors.specs.declared.fraction.Fraction.{Fraction}
use Rattle.divisors.specs.Folding.{FirstJoin, FirstStrip, FoldsTo, StepsTo, done, joined_by, joins, stepped, stripped_by, strips}
use Rattle.divisors.specs.Fractions.{Multiple, Reduced, none}
use Rattle.divisors.specs.Lemmas.Joins.{join_reduced, step_admits}
use Rattle.divisors.specs.Lemmas.Strips.{strip_reduced, strip_multiple}
use Rattle.divisors.specs.Lemmas.Tidied.{all_tidied, all_untidied}
use Rattle.divisors.specs.Lemmas.Members.{Multiples}

at : (P : Fraction → Type 0) (xs : List Fraction) → AllByRecursion P xs → (i : ℕ) → i < length xs → P (get_or xs i none)
at P xs h i l = All-get_or P xs i none l h

pub joined_reduced : (xs : List Fraction) (t : Pair) → AllByRecursion Reduced xs → FirstJoin xs t → AllByRecursion Reduced (joined_by t xs)
joined_reduced xs t h f =
    let j = join_reduced (get_or xs t.left none) (get_or xs t.right none) t.join (at Reduced xs h t.left (omega (arith, f.ordered, f.within))) (at Reduced xs h t.right f.within) f.joins in
    let ys = set xs t.left t.join in
    let s = All-set Reduced xs t.left t.join j h in
    All-append Reduced (take t.right ys) (drop (suc t.right) ys) (All-take Reduced t.right ys s) (All-drop Reduced (suc t.right) ys s)

pub stripped_reduced : (xs : List Fraction) (t : Strip) → AllByRecursion Reduced xs → FirstStrip xs t → AllByRecursion Reduced (stripped_by t xs)
stripped_reduced xs t h f =
    All-set Reduced xs t.at t.left (strip_reduced (get_or xs t.at none) (get_or xs t.by none) t.left (at Reduced xs h t.at f.within) f.strips) h

joined_admits : (xs : List Fraction) (t : Pair) (v : ℕ) → AllByRecursion Reduced xs → FirstJoin xs t → (Multiples (joined_by t xs) v) ↔ (Multiples xs v)
joined_admits xs t v h f =
    let M : Fraction → Type 0 = λ g. Multiple g v in
    let ys = remove (set xs t.left t.join) t.right in
    let s = step_admits xs t v (at Reduced xs h) f in (
      λ a. All-from_get_or M xs none (s.0 (at M ys a)),
      λ a. All-from_get_or M ys none (s.1 (at M xs a)),
    )

stripped_admits : (xs : List Fraction) (t : Strip) (v : ℕ) → AllByRecursion Reduced xs → FirstStrip xs t → (Multiples (stripped_by t xs) v) ↔ (Multiples xs v)
stripped_admits xs t v h f =
    let M : Fraction → Type 0 = λ g. Multiple g v in
    let ys = set xs t.at t.left in
    let size : length ys ≡ length xs = length-set xs t.at t.left in
    let s = strip_multiple (get_or xs t.at none) (get_or xs t.by none) t.left v f.strips in
    let here : get_or ys t.at none ≡ t.left = get_or-set_same xs t.at t.left none f.within in
    let there : (i : ℕ) → (i ≡ t.at → ⊥) → get_or ys i none ≡ get_or xs i none = λ i n. get_or-set_other xs t.at i t.left none n in (
      λ a.
          let b = at M ys a in
          All-from_get_or M xs none
          (λ i l.
          ⊎_elim
          (λ e.
          subst (λ (k : ℕ). M (get_or xs k none)) (sym e)
          ((s (subst M (there t.by (λ k. f.other (sym k))) (b t.by (omega (arith, f.by_within))))).0 (subst M here (b t.at (omega (arith, f.within))))))
          (λ n. subst M (there i n) (b i (omega arith))) (cases_eq i t.at)),
      λ a.
          All-set M xs t.at t.left ((s (at M xs a t.by f.by_within)).1 (at M xs a t.at f.within)) a,
    )

-- the list after a step is of reduced fractions
pub step_reduced : (xs ys : List Fraction) → AllByRecursion Reduced xs → StepsTo xs ys → AllByRecursion Reduced ys
step_reduced xs ys h (joins j) = all_tidied (joined_by j.pair xs) ys j.tidies Reduced (joined_reduced xs j.pair h j.first)
step_reduced xs ys h (strips s) = all_tidied (stripped_by s.strip xs) ys s.tidies Reduced (stripped_reduced xs s.strip h s.first)

one_admits : (xs ys : List Fraction) (v : ℕ) → AllByRecursion Reduced xs → StepsTo xs ys → (Multiples ys v) ↔ (Multiples xs v)
one_admits xs ys v h (joins j) =
    let M : Fraction → Type 0 = λ g. Multiple g v in
    let s = joined_admits xs j.pair v h j.first in
    (λ a. s.0 (all_untidied (joined_by j.pair xs) ys j.tidies M a), λ a. all_tidied (joined_by j.pair xs) ys j.tidies M (s.1 a))
one_admits xs ys v h (strips j) =
    let M : Fraction → Type 0 = λ g. Multiple g v in
    let s = stripped_admits xs j.strip v h j.first in
    (λ a. s.0 (all_untidied (stripped_by j.strip xs) ys j.tidies M a), λ a. all_tidied (stripped_by j.strip xs) ys j.tidies M (s.1 a))

pub fold_admits : (xs ys : List Fraction) → FoldsTo xs ys → AllByRecursion Reduced xs → (v : ℕ) → (Multiples ys v) ↔ (Multiples xs v)
fold_admits xs ys (done n m) h v = (λ a. a, λ a. a)
fold_admits xs ys (stepped {ys = zs} s r) h v =
    let i = fold_admits zs ys r (step_reduced xs zs h s) v in
    let w = one_admits xs zs v h s in
    (λ a. w.0 (i.0 a), λ a. i.1 (w.1 a))
