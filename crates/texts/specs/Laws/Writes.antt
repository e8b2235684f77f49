-- Texts written one after another into a buffer.
use Rattle.std.proofs.Common.{◌≡◌, ℕ, zero, suc, ◌+◌, ◌-◌, ◌<◌, ◌≤◌, List, [], ◌∷◌, ◌++◌, length, take, drop, sym, refl, ap, ◌∙◌, ⊎_elim, arith}
use Rattle.std.proofs.lemmas.List.{append_assoc, take_all, take-append-drop, length-append, length-take-le, take_at, drop_at, drop-drop, length-take, length-drop}
use Rattle.std.proofs.lemmas.Bool.{cases_lt}
use Rattle.texts.specs.Text.{Wrote, fitting, over}
use Rattle.texts.specs.Cursors.{Put}
use Rattle.texts.specs.declared.cursor.Cursor.{Cursor}

none_over : (old : List ℕ) (at : ℕ) → old ≡ over old at []
none_over old at = sym (take-append-drop at old) ∙ ap (λ (k : ℕ). take at old ++ drop k old) (let e : at ≡ at + 0 = omega arith in e)

no_room : (k : ℕ) (t : List ℕ) → k ≡ 0 → take k t ≡ []
no_room k t e = ap (λ (j : ℕ). take j t) e

-- nothing is written where there is no room
pub wrote_nothing : (buf : List ℕ) (at : ℕ) (t : List ℕ) → length buf ≤ at → Wrote buf at t buf at
wrote_nothing buf at t h =
    let e = no_room (length buf - at) t (omega arith) in
    record { end = omega (arith, ap length e); bytes = none_over buf at ∙ ap (over buf at) (sym e) }

-- the empty text
pub wrote_none : (buf : List ℕ) (at : ℕ) → Wrote buf at [] buf at
wrote_none buf at = let e = take_all {A = ℕ} (length buf - at) [] (omega arith) in record { end = omega (arith, ap length e); bytes = none_over buf at ∙ ap (over buf at) (sym e) }

-- a text that has room is written whole
pub fits : (buf : List ℕ) (at : ℕ) (t : List ℕ) → at + length t ≤ length buf → fitting buf at t ≡ t
fits buf at t h = take_all (length buf - at) t (omega arith)

over_over : (old : List ℕ) (at : ℕ) (t u : List ℕ) → at ≤ length old → over (over old at t) (at + length t) u ≡ over old at (t ++ u)
over_over old at t u h =
    let k = at + length t in
    let front = take at old ++ t in
    let rest = drop k old in
    let lf : length front ≡ k = length-append (take at old) t ∙ ap (λ n. n + length t) (length-take-le at old h) in
    let e0 : over old at t ≡ front ++ rest = sym (append_assoc (take at old) t rest) in
    let e1 : take k (front ++ rest) ≡ front = take_at front rest k lf in
    let e2 : drop (k + length u) (front ++ rest) ≡ drop (k + length u) old = sym (drop-drop (length u) k (front ++ rest)) ∙ (ap (drop (length u)) (drop_at front rest k lf) ∙ drop-drop (length u) k old) in
    let e3 : k + length u ≡ at + length (t ++ u) = omega (arith, length-append t u) in
    ap (λ b. over b k u) e0
    ∙ (ap (λ x. x ++ (u ++ drop (k + length u) (front ++ rest))) e1
    ∙ (ap (λ x. front ++ (u ++ x)) (e2 ∙ ap (λ n. drop n old) e3)
    ∙ (append_assoc (take at old) t (u ++ drop (at + length (t ++ u)) old)
    ∙ ap (λ x. take at old ++ x) (sym (append_assoc t u (drop (at + length (t ++ u)) old))))))

length_over : (old : List ℕ) (at : ℕ) (t : List ℕ) → at + length t ≤ length old → length (over old at t) ≡ length old
length_over old at t h = simp (length-append, length-take, length-drop) (omega arith)

-- the front of two texts
take_both : (k : ℕ) (t u : List ℕ) → take k (t ++ u) ≡ take k t ++ take (k - length (take k t)) u
take_both zero t u = refl
take_both (suc k) [] u = ap (λ (j : ℕ). take j u) (let e : suc k ≡ suc k - 0 = omega arith in e)
take_both (suc k) (b ∷ t) u = ap (λ (x : List ℕ). b ∷ x) (take_both k t u ∙ ap (λ (j : ℕ). take k t ++ take j u) (let e : k - length (take k t) ≡ suc k - suc (length (take k t)) = omega arith in e))

-- one text after another
pub wrote_then : {old mid new : List ℕ} {at r s : ℕ} {t u : List ℕ} → Wrote old at t mid r → Wrote mid r u new s → Wrote old at (t ++ u) new s
wrote_then {old} {mid} {new} {at} {r} {s} {t} {u} a b = ⊎_elim room full (cases_lt at (length old))
  where
    room : at < length old → Wrote old at (t ++ u) new s
    room h =
        let k = length old - at in
        let x = take k t in
        let y = take (k - length x) u in
        let lx : length x ≤ k = omega (arith, length-take k t) in
        let lm : length mid ≡ length old = ap length a.bytes ∙ length_over old at x (omega arith) in
        let j : length mid - r ≡ k - length x = omega (arith, a.end) in
        let fu : fitting mid r u ≡ y = ap (λ (i : ℕ). take i u) j in
        let both : fitting old at (t ++ u) ≡ x ++ y = take_both k t u in
        record {
          end = omega (arith, b.end, a.end, ap length fu, ap length both, length-append x y);
          bytes =
              b.bytes ∙ (ap (over mid r) fu ∙ (ap (λ (m : List ℕ). over m r y) a.bytes ∙ (ap (λ (n : ℕ). over (over old at x) n y) a.end ∙
              (over_over old at x y (omega arith) ∙ ap (over old at) (sym both)))));
        }

    full : length old ≤ at → Wrote old at (t ++ u) new s
    full h =
        let ex = no_room (length old - at) t (omega arith) in
        let re : r ≡ at = omega (arith, a.end, ap length ex) in
        let me : mid ≡ old = a.bytes ∙ (ap (over old at) ex ∙ sym (none_over old at)) in
        let eu = no_room (length mid - r) u (omega (arith, ap length me)) in
        let se : s ≡ at = omega (arith, b.end, ap length eu) in
        let ne : new ≡ old = b.bytes ∙ (ap (over mid r) eu ∙ (sym (none_over mid r) ∙ me)) in
        let w = wrote_nothing old at (t ++ u) h in
        record { end = se ∙ w.end; bytes = ne ∙ w.bytes }

-- and behind a cursor
pub put_none : (c : Cursor) → Put c [] c
put_none c = record { wrote = wrote_none c.buf.now c.at; same = refl }

pub put_then : {old mid new : Cursor} {t u : List ℕ} → Put old t mid → Put mid u new → Put old (t ++ u) new
put_then a b = record { wrote = wrote_then a.wrote b.wrote; same = b.same ∙ a.same }
