-- What a join and a strip admit.
use Rattle.std.proofs.Common.{◌≡◌, ℕ, ◌+◌, ◌-◌, ◌*◌, ◌<◌, ◌≤◌, Bool, true, false, cond, leb, ◌↔◌, List, length, get_or, set, Some, None, sym, refl, ap, ◌∙◌, subst, ⊎_elim, mul-pos, arith}
use Prim.Native.Nat.{◌∣◌}
use native.Mathlib.Nat.{dvd_trans, dvd-mul_left, dvd-mul_right, dvd-mul_right_of_dvd, eq-one_of_dvd-one, le_of_dvd, pos_of_dvd_of_pos}
use Rattle.std.specs.List.{remove}
use Rattle.std.proofs.lemmas.Bool.{cases_eq, cases_lt, leb-true}
use Rattle.std.proofs.lemmas.List.{get_or-set_same, get_or-set_other, length-set}
use Rattle.std.proofs.lemmas.List.Edits.{length-remove, get_or-remove_below, get_or-remove_above}
use Rattle.divisors.specs.declared.folding.Pair.{Pair}
use Rattle.divisors.specs.declared.fraction.Fraction.{Fraction}
use Rattle.divisors.specs.Folding.{FirstJoin}
use Rattle.divisors.specs.Fractions.{Multiple, Reduced, none}
use Rattle.divisors.specs.Joining.{join_of}
use Rattle.divisors.specs.Whole.{gcd_of, lcm_of}
use Rattle.divisors.specs.Lemmas.Gcds.{gcd_is, gcd_comm, gcd_pos, lcm_is, coprime_divides}

pub one_if : (p q d : ℕ) → gcd_of p q ≡ 1 → d ∣ p → d ∣ q → d ≡ 1
one_if p q d e x y = eq-one_of_dvd-one (subst (λ (z : ℕ). d ∣ z) e ((gcd_is p q).greatest d x y))

coprime_part : (p q g : ℕ) → gcd_of p q ≡ 1 → g ∣ q → gcd_of p g ≡ 1
coprime_part p q g e h = one_if p q (gcd_of p g) e (gcd_is p g).left (dvd_trans (gcd_of p g) (gcd_is p g).right h)

coprime_lcm : (p r g : ℕ) → 0 < p → gcd_of p g ≡ 1 → gcd_of r g ≡ 1 → gcd_of (lcm_of p r) g ≡ 1
coprime_lcm p r g h x y =
    let d = gcd_of (lcm_of p r) g in
    let dg : d ∣ g = (gcd_is (lcm_of p r) g).right in
    let dl : d ∣ p * r = dvd_trans d (gcd_is (lcm_of p r) g).left ((lcm_is p r).least (p * r) (dvd-mul_right p r) (dvd-mul_left r p)) in
    let dr : gcd_of d r ≡ 1 = gcd_comm d r ∙ coprime_part r g d y dg in
    one_if p g d x (coprime_divides d r p dr dl) dg

-- over whole numbers, a multiple of a reduced fraction is a multiple of its numerator
pub whole_multiple : (f : Fraction) (v : ℕ) → Reduced f → (Multiple f v) ↔ (f.p ∣ v)
whole_multiple f v r = (λ h. coprime_divides f.p f.q v r.coprime h, λ h. dvd-mul_right_of_dvd f.p h f.q)

-- a join that is there: its parts, and that they fit
pub join_parts : (a b j : Fraction) → join_of a b ≡ Some j → (j ≡ record { p = lcm_of a.p b.p; q = gcd_of a.q b.q }) × (lcm_of a.p b.p ≤ 9223372036854775807)
join_parts a b j e = go (leb (lcm_of a.p b.p) 9223372036854775807) refl e
  where
    go :
        (t : Bool) → leb (lcm_of a.p b.p) 9223372036854775807 ≡ t →
        cond t (Some (record { p = lcm_of a.p b.p; q = gcd_of a.q b.q })) None ≡ Some j →
        (j ≡ record { p = lcm_of a.p b.p; q = gcd_of a.q b.q }) × (lcm_of a.p b.p ≤ 9223372036854775807)
    go true t k = (cc, leb-true (lcm_of a.p b.p) 9223372036854775807 t)
    go false t k = absurd (let z : ◌≡◌ {A = ℕ} 0 1 = cc in omega arith)

pub join_reduced : (a b j : Fraction) → Reduced a → Reduced b → join_of a b ≡ Some j → Reduced j
join_reduced a b j ra rb e =
    let k = join_parts a b j e in
    let l = lcm_is a.p b.p in
    let g = gcd_is a.q b.q in
    let low : 0 < lcm_of a.p b.p = pos_of_dvd_of_pos (l.least (a.p * b.p) (dvd-mul_right a.p b.p) (dvd-mul_left b.p a.p)) (mul-pos ra.p_low rb.p_low) in
    let qle : gcd_of a.q b.q ≤ a.q = le_of_dvd ra.q_low g.left in
    subst Reduced (sym k.0)
    (record {
      p_low = low;
      p_high = omega (arith, k.1);
      q_low = gcd_pos a.q b.q ra.q_low;
      q_high = omega (arith, ra.q_high);
      coprime =
          coprime_lcm a.p b.p (gcd_of a.q b.q) ra.p_low (coprime_part a.p a.q (gcd_of a.q b.q) ra.coprime g.left)
          (coprime_part b.p b.q (gcd_of a.q b.q) rb.coprime g.right);
    })

-- the multiples of a join are those of both
pub join_multiple : (a b j : Fraction) (v : ℕ) → Reduced a → Reduced b → join_of a b ≡ Some j → (Multiple j v) ↔ (Multiple a v × Multiple b v)
join_multiple a b j v ra rb e =
    let k = join_parts a b j e in
    let l = lcm_is a.p b.p in
    let rj = join_reduced a b j ra rb e in
    let jp : j.p ≡ lcm_of a.p b.p = ap (λ (f : Fraction). f.p) k.0 in (
      λ m.
          let w : lcm_of a.p b.p ∣ v = subst (λ (x : ℕ). x ∣ v) jp ((whole_multiple j v rj).0 m) in
          ((whole_multiple a v ra).1 (dvd_trans a.p l.left w), (whole_multiple b v rb).1 (dvd_trans b.p l.right w)),
      λ m. (whole_multiple j v rj).1 (subst (λ (x : ℕ). x ∣ v) (sym jp) (l.least v ((whole_multiple a v ra).0 m.0) ((whole_multiple b v rb).0 m.1))),
    )

-- of every place of a row
abbrev pub Each : (Fraction → Type 0) → List Fraction → Type 0
Each P xs = (i : ℕ) → i < length xs → P (get_or xs i none)

-- the row after a join admits what the row before it admits
pub step_admits :
    (xs : List Fraction) (t : Pair) (v : ℕ) → Each Reduced xs → FirstJoin xs t →
    (Each (λ f. Multiple f v) (remove (set xs t.left t.join) t.right)) ↔ (Each (λ f. Multiple f v) xs)
step_admits xs t v rs h =
    let l = t.left in
    let r = t.right in
    let ys = set xs l t.join in
    let size : length ys ≡ length xs = length-set xs l t.join in
    let less : length (remove ys r) + 1 ≡ length ys = length-remove ys r (omega (arith, h.within)) in
    let j = join_multiple (get_or xs l none) (get_or xs r none) t.join v (rs l (omega (arith, h.ordered, h.within))) (rs r h.within) h.joins in
    let at_left : get_or (remove ys r) l none ≡ t.join = get_or-remove_below ys r none l h.ordered (omega (arith, h.within)) ∙ get_or-set_same xs l t.join none (omega (arith, h.ordered, h.within)) in (
      λ m.
          let both = j.0 (subst (λ (f : Fraction). Multiple f v) at_left (m l (omega (arith, h.ordered, h.within)))) in
          λ i a.
          ⊎_elim (λ e. subst (λ (k : ℕ). Multiple (get_or xs k none) v) (sym e) both.0)
          (λ nl.
          ⊎_elim (λ e. subst (λ (k : ℕ). Multiple (get_or xs k none) v) (sym e) both.1)
          (λ nr.
          ⊎_elim
          (λ b.
          subst (λ (f : Fraction). Multiple f v)
          (get_or-remove_below ys r none i b (omega (arith, h.within)) ∙ get_or-set_other xs l i t.join none nl)
          (m i (omega (arith, h.within))))
          (λ b.
          let up : (i - 1) + 1 ≡ i = omega arith in
          subst (λ (f : Fraction). Multiple f v)
          (get_or-remove_above ys r none (i - 1) (omega arith) (omega (arith, h.within)) ∙ ap (λ (k : ℕ). get_or ys k none) up ∙
          get_or-set_other xs l i t.join none nl)
          (m (i - 1) (omega arith)))
          (cases_lt i r))
          (cases_eq i r))
          (cases_eq i l),
      λ m i a.
          ⊎_elim
          (λ b.
          ⊎_elim
          (λ e. subst (λ (k : ℕ). Multiple (get_or (remove ys r) k none) v) (sym e) (subst (λ (f : Fraction). Multiple f v) (sym at_left) (j.1 (m l (omega (arith, h.ordered, h.within)), m r h.within))))
          (λ nl.
          subst (λ (f : Fraction). Multiple f v)
          (sym (get_or-remove_below ys r none i b (omega (arith, h.within)) ∙ get_or-set_other xs l i t.join none nl)) (m i (omega arith)))
          (cases_eq i l))
          (λ b.
          subst (λ (f : Fraction). Multiple f v)
          (sym (get_or-remove_above ys r none i b (omega (arith, h.within)) ∙ get_or-set_other xs l (i + 1) t.join none (omega (arith, h.ordered)))) (m (i + 1) (omega arith)))
          (cases_lt i r),
    )
