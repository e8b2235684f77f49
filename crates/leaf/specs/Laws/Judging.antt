-- A leaf's reader by its layout: from few laws to what each of its answers says.
use Rattle.std.specs.Prelude.{◌≡◌, ℕ, ◌+◌, ◌<◌, ◌≤◌, true, false, cond, ◌⊎◌, List, [], ◌∷◌, ◌++◌, length, drop, Decides, refl}
use Rattle.std.proofs.Common.{drop-drop, sym, ap, ◌∙◌, subst, inl, inr, ⊎_elim, arith, length-drop}
use Rattle.std.proofs.lemmas.Bool.{cond-true, cond-false, cases_Bool, true≢false}
use Rattle.faults.specs.Faults.{Answer, Refused, found, refused, next, at_byte}
use Rattle.leaf.specs.Encoding.{Bytes}
use Rattle.leaf.specs.Kind.{Kind, Laws, first_of, Lawful, admits, layout_of, leaf_at}
use Rattle.leaf.specs.Grammar.{AnswersStand, LeafGrammar, ReadMeans, StandsFor, WellRead}
use Rattle.leaf.specs.Plans.{made_at, Makes, Reached, EndsEarly, BadNumber, Unfit}
use Rattle.leaf.specs.Layouts.{Layout, LayoutLaws, LeafJudged, LeafStands, OneAnswer, StandAsLeaf, StandInTurn, bytes_of, is_of_field, is_written_window, leaf_under, no_layout, written_leaf}
use Rattle.leaf.specs.Laws.Writing.{found_refused}
use Rattle.leaf.specs.Laws.Rows.{row_leaf, leaf_row, drop_front, written_within}
use Rattle.leaf.specs.Laws.Starts.{byte_past}
use Rattle.leaf.specs.Laws.Runs.{Halts, early, bad, unfit, Says, answers, says}

module _ {Role W M L : Type 0} (y : Layout Role W M L) where
  module _ (k : LayoutLaws y) (s : List ℕ) (at : ℕ) where
    abbrev pub judge : Answer M → Answer L
    judge o = next o (λ m e. cond (y.is_window m) (found (y.leaf m) e) (refused (at_byte 8 at)))

    -- a leaf whose bytes stand there is made
    pub is_made : (w : W) (e : ℕ) → LeafStands y s at w e → made_at y.table y.plan s at ≡ found (y.made w) e
    is_made w e h =
        answers y.table s y.plan at (found (y.made w) e)
        (k.makes s at w e h.fits (subst (StandAsLeaf s at (y.numbers w)) (sym h.ends) (leaf_row s at (y.numbers w) (drop e s) (k.below w h.fits) h.bytes)))

    module _ (b : Bytes s) where
      abbrev o : Answer M
      o = made_at y.table y.plan s at

      -- what is made stands there
      Stood : M → ℕ → Type 0
      Stood m e = (w : W) × LeafStands y s at w e × (y.made w ≡ m)

      stands : (m : M) (e : ℕ) → o ≡ found m e → Stood m e
      unfolding Stood
      stands m e q =
          let (w, f, i, l) = k.stood s at m e (subst (Says y.table s y.plan at) q (says y.table s y.plan at)) in
          let r = row_leaf s at (y.numbers w) e b l in
          (w, record { fits = f; bytes = r.0; ends = r.1 }, i)

      -- what a refusal of the fields says
      abbrev Told : Refused → Type 0
      Told f =
          ((f ≡ at_byte 2 (length s)) × EndsEarly y.table s y.plan at) ⊎ ((p : ℕ) × (f ≡ at_byte 3 p) × BadNumber y.table s y.plan at p)
          ⊎ ((n : ℕ) × (p : ℕ) × (f ≡ at_byte n p) × Unfit y.table s y.plan at n p)

      told_by : (q : Role) (p : ℕ) (f : Refused) → Reached y.table s y.plan at q p → Halts y.table s q p f → Told f
      told_by q p f r (early c) = inl (refl, (q, p, r, c))
      told_by q p f r (bad c) = inr (inl (p, refl, (q, r, c)))
      told_by q p f r (unfit n size w u) = inr (inr (y.table.refusal q, y.table.named q p, refl, record { field = q; place = p; value = n; size = size; reached = r; stands = w; unfit = u; refusal_is = refl; named_is = refl }))

      told : (f : Refused) → o ≡ refused f → Told f
      told f q = let (r, p, h, x) = subst (Says y.table s y.plan at) q (says y.table s y.plan at) in told_by r p f h x

      abbrev Crossed : Refused → Type 0
      Crossed f = (m : M) × (e : ℕ) × (o ≡ found m e) × (y.is_window m ≡ false) × (f ≡ at_byte 8 at)

      passed : (z : Answer M) (f : Refused) → o ≡ z → judge z ≡ refused f → Told f ⊎ Crossed f
      passed (refused g) f q h = inl (told f (q ∙ h'))
        where
          h' : ◌≡◌ {A = Answer M} (refused g) (refused f)
          h' = let e : g ≡ f = cc in ap (λ (x : Refused). refused x) e
      passed (found m e) f q h =
          ⊎_elim
          (λ t. absurd (found_refused (sym (cond-true (y.is_window m) (found (y.leaf m) e) (refused (at_byte 8 at)) t) ∙ h)))
          (λ t. let g = sym (cond-false (y.is_window m) (found (y.leaf m) e) (refused (at_byte 8 at)) t) ∙ h in inr (m, e, q, t, cc))
          (cases_Bool (y.is_window m))

      came : (f : Refused) → judge o ≡ refused f → Told f ⊎ Crossed f
      came f h = passed o f refl h

      numbers_same : {n m p q : ℕ} → at_byte n p ≡ at_byte m q → n ≡ m
      numbers_same h = ap (λ (r : Refused). r.number) h

      bytes_same : {n m p q : ℕ} → at_byte n p ≡ at_byte m q → p ≡ q
      bytes_same h = let g = ap (λ (r : Refused). r.byte) h in cc

      field_number : (n p : ℕ) → Unfit y.table s y.plan at n p → is_of_field n ≡ true
      field_number n p u = subst (λ z. is_of_field z ≡ true) (sym u.refusal_is) (k.own u.field)

      not_own : {X : Type 0} (n m : ℕ) → n ≡ m → is_of_field n ≡ true → is_of_field m ≡ false → X
      not_own n m e g h = absurd (true≢false (sym (subst (λ v. is_of_field v ≡ true) e g) ∙ h))

      two_by : Told (at_byte 2 (length s)) ⊎ Crossed (at_byte 2 (length s)) → EndsEarly y.table s y.plan at
      two_by (inl (inl (e, x))) = x
      two_by (inl (inr (inl (p, e, x)))) = absurd (let z = numbers_same e in omega (arith, z))
      two_by (inl (inr (inr (n, p, e, x)))) = not_own n 2 (sym (numbers_same e)) (field_number n p x) refl
      two_by (inr (m, e, q, t, h)) = absurd (let z = numbers_same h in omega (arith, z))

      three_by : (b : ℕ) → Told (at_byte 3 b) ⊎ Crossed (at_byte 3 b) → BadNumber y.table s y.plan at b
      three_by b (inl (inl (e, x))) = absurd (let z = numbers_same e in omega (arith, z))
      three_by b (inl (inr (inl (p, e, x)))) = subst (BadNumber y.table s y.plan at) (sym (bytes_same e)) x
      three_by b (inl (inr (inr (n, p, e, x)))) = not_own n 3 (sym (numbers_same e)) (field_number n p x) refl
      three_by b (inr (m, e, q, t, h)) = absurd (let z = numbers_same h in omega (arith, z))

      unfit_by : (m b : ℕ) → is_of_field m ≡ true → Told (at_byte m b) ⊎ Crossed (at_byte m b) → Unfit y.table s y.plan at m b
      unfit_by m b g (inl (inl (e, x))) = not_own m 2 (numbers_same e) g refl
      unfit_by m b g (inl (inr (inl (p, e, x)))) = not_own m 3 (numbers_same e) g refl
      unfit_by m b g (inl (inr (inr (n, p, e, x)))) =
          subst (λ v. Unfit y.table s y.plan at v b) (sym (numbers_same e)) (subst (Unfit y.table s y.plan at n) (sym (bytes_same e)) x)
      unfit_by m b g (inr (w, e, q, t, h)) = not_own m 8 (numbers_same h) g refl

      eight_by : (b : ℕ) → Told (at_byte 8 b) ⊎ Crossed (at_byte 8 b) → (b ≡ at) × ((w : W) × (end : ℕ) × LeafStands y s at w end × (is_written_window y w ≡ false))
      unfolding Stood
      eight_by b (inl (inl (e, x))) = absurd (let z = numbers_same e in omega (arith, z))
      eight_by b (inl (inr (inl (p, e, x)))) = absurd (let z = numbers_same e in omega (arith, z))
      eight_by b (inl (inr (inr (n, p, e, x)))) = not_own n 8 (sym (numbers_same e)) (field_number n p x) refl
      eight_by b (inr (m, e, q, t, h)) = let (w, l, i) = stands m e q in (bytes_same h, (w, e, l, ap y.is_window i ∙ t))

      read_by : (z : Answer M) (x : L) (end : ℕ) → o ≡ z → judge z ≡ found x end → (w : W) × LeafStands y s at w end × (is_written_window y w ≡ true) × (x ≡ written_leaf y w)
      unfolding Stood
      read_by (refused f) x end q h = absurd (found_refused (sym h))
      read_by (found m e) x end q h =
          ⊎_elim
          (λ t.
          let g = sym (cond-true (y.is_window m) (found (y.leaf m) e) (refused (at_byte 8 at)) t) ∙ h in
          let i : e ≡ end = cc in
          let j : y.leaf m ≡ x = cc in
          let (w, l, n) = stands m e q in
          (w, subst (LeafStands y s at w) i l, ap y.is_window n ∙ t, sym (ap y.leaf n ∙ j)))
          (λ t. absurd (found_refused (sym h ∙ cond-false (y.is_window m) (found (y.leaf m) e) (refused (at_byte 8 at)) t)))
          (cases_Bool (y.is_window m))

      one_by : (z : Answer L) → judge o ≡ z → OneAnswer y s at z
      one_by (found x e) h = inl (x, e, refl)
      one_by (refused f) h = by (came f h)
        where
          by : Told f ⊎ Crossed f → OneAnswer y s at (refused f)
          by (inl (inl (e, x))) = inr (inl (ap (λ (g : Refused). refused g) e))
          by (inl (inr (inl (p, e, x)))) = inr (inr (inl (p, ap (λ (g : Refused). refused g) e)))
          by (inl (inr (inr (n, p, e, x)))) = inr (inr (inr (inl (n, p, field_number n p x, ap (λ (g : Refused). refused g) e))))
          by (inr (w, e, q, t, g)) = inr (inr (inr (inr (at, ap (λ (g : Refused). refused g) g))))

      unfit_runs : (n p : ℕ) → Unfit y.table s y.plan at n p → o ≡ refused (at_byte n p)
      unfit_runs n p u =
          answers y.table s y.plan at (refused (at_byte (y.table.refusal u.field) (y.table.named u.field u.place))) (u.field, u.place, u.reached, unfit u.value u.size u.stands u.unfit)
          ∙ λ i. refused (at_byte (sym u.refusal_is i) (sym u.named_is i))

      pub leaf_judged : LeafJudged y s at (judge o)
      leaf_judged = record {
        one = one_by (judge o) refl;
        read = λ x end. (
          read_by o x end refl,
          (λ (w, h, t, e). ap judge (is_made w end h) ∙ (cond-true (is_written_window y w) (found (written_leaf y w) end) (refused (at_byte 8 at)) t ∙ ap (λ (z : L). found z end) (sym e))),
        );
        two = ((λ h. two_by (came (at_byte 2 (length s)) h)), (λ (q, p, r, c). ap judge (answers y.table s y.plan at (refused (at_byte 2 (length s))) (q, p, r, early c))));
        three = λ p. ((λ h. three_by p (came (at_byte 3 p) h)), (λ (q, r, c). ap judge (answers y.table s y.plan at (refused (at_byte 3 p)) (q, p, r, bad c))));
        unfit = λ n p g. ((λ h. unfit_by n p g (came (at_byte n p) h)), (λ x. ap judge (unfit_runs n p x)));
        eight = λ p. (
          (λ h. eight_by p (came (at_byte 8 p) h)),
          (λ (e, (w, end, h, t)). ap judge (is_made w end h) ∙ (cond-false (is_written_window y w) (found (written_leaf y w) end) (refused (at_byte 8 at)) t ∙ ap (λ (z : ℕ). refused (at_byte 8 z)) (sym e))),
        );
      }

  module _ (k : LayoutLaws y) where
    -- a leaf's bytes stand behind what is in front of them
    at_front : (w : W) (front rest : List ℕ) → y.fits w ≡ true → LeafStands y (front ++ (bytes_of y w ++ rest)) (length front) w (length front + length (bytes_of y w))
    at_front w front rest f =
        let s = front ++ (bytes_of y w ++ rest) in
        let d : drop (length front) s ≡ bytes_of y w ++ rest = drop_front front (bytes_of y w ++ rest) in
        let e : drop (length front + length (bytes_of y w)) s ≡ rest = sym (drop-drop (length (bytes_of y w)) (length front) s) ∙ (ap (drop (length (bytes_of y w))) d ∙ drop_front (bytes_of y w) rest) in
        record { fits = f; bytes = d ∙ ap (λ (xs : List ℕ). bytes_of y w ++ xs) (sym e); ends = refl }

    made_back : (w : W) (front rest : List ℕ) → y.fits w ≡ true → made_at y.table y.plan (front ++ (bytes_of y w ++ rest)) (length front) ≡ found (y.made w) (length front + length (bytes_of y w))
    made_back w front rest f = is_made k (front ++ (bytes_of y w ++ rest)) (length front) w (length front + length (bytes_of y w)) (at_front w front rest f)

    pub read_back : (w : W) (front rest : List ℕ) → y.fits w ≡ true → is_written_window y w ≡ true →
        leaf_under y (front ++ (bytes_of y w ++ rest)) (length front) ≡ found (written_leaf y w) (length front + length (bytes_of y w))
    read_back w front rest f t =
        ap (judge k (front ++ (bytes_of y w ++ rest)) (length front)) (made_back w front rest f)
        ∙ cond-true (is_written_window y w) (found (written_leaf y w) (length front + length (bytes_of y w))) (refused (at_byte 8 (length front))) t

    pub alone : (w v : W) (rest others : List ℕ) → y.fits w ≡ true → y.fits v ≡ true → bytes_of y w ++ rest ≡ bytes_of y v ++ others → w ≡ v
    alone w v rest others f g e =
        let p = made_back w [] rest f in
        let q = made_back v [] others g in
        let r : found (y.made w) (0 + length (bytes_of y w)) ≡ found (y.made v) (0 + length (bytes_of y v)) = sym p ∙ (ap (λ (xs : List ℕ). made_at y.table y.plan xs 0) e ∙ q) in
        k.same w v f g cc

    -- what is read ends past its start and within the sheet
    row_ends : (s : List ℕ) (at : ℕ) (ns : List ℕ) (end : ℕ) → at ≤ length s → StandInTurn s at ns end → (at ≤ end) × (end ≤ length s)
    row_ends s at [] end h r = (omega (arith, r), omega (arith, r))
    row_ends s at (n ∷ ns) end h (size, w, r) =
        let i = written_within (drop at s) n size w in
        let l = length-drop at s in
        let q = row_ends s (at + size) ns end (omega arith) r in
        (omega (arith, q.0), q.1)

    leaf_row_ends : (s : List ℕ) (at : ℕ) (ns : List ℕ) (end : ℕ) → StandAsLeaf s at ns end → (at < end) × (end ≤ length s)
    leaf_row_ends s at [] end r = absurd r
    leaf_row_ends s at (f ∷ ns) end (e, r) =
        let l = length-drop at s in
        let i = ap length e in
        let q = row_ends s (at + 1) ns end (omega arith) r in
        (omega (arith, q.0), q.1)

    -- what is made at a byte ends past it
    pub made_ends : (s : List ℕ) (at : ℕ) (m : M) (end : ℕ) → Makes y.table s y.plan at m end → (w : W) × (y.fits w ≡ true) × (y.made w ≡ m) × (at < end) × (end ≤ length s)
    made_ends s at m end h = let (w, f, i, l) = k.stood s at m end h in let r = leaf_row_ends s at (y.numbers w) end l in (w, f, i, r.0, r.1)

-- of a kind
module _ {V L : Type 0} (k : Kind V L) (laws : Laws k) where
  pub answers_stand : (s : List ℕ) (at : ℕ) → Bytes s → AnswersStand k s at
  answers_stand s at b = leaf_judged (layout_of k s) (laws.layouts (first_of s)) s at b

  pub leaf_grammar : LeafGrammar k
  leaf_grammar = record {
    read_back = λ b w front rest f t. read_back (k.layout b) (laws.layouts b) w (b ∷ front) rest f t;
    alone = λ b. alone (k.layout b) (laws.layouts b);
  }

  pub well_read : (s : List ℕ) (at : ℕ) → WellRead k s at (leaf_at k s at)
  well_read s at = by (made_at (layout_of k s).table (layout_of k s).plan s at) (says (layout_of k s).table s (layout_of k s).plan at)
    where
      shown : LayoutLaws (layout_of k s)
      shown = laws.layouts (first_of s)

      by : (a : Answer k.Made) → Says (layout_of k s).table s (layout_of k s).plan at a → WellRead k s at (judge (layout_of k s) shown s at a)
      by (refused f) h = tt
      by (found m e) h =
          let y = layout_of k s in
          let (w, f, i, l, r) = made_ends y shown s at m e h in
          ⊎_elim
          (λ t. subst (WellRead k s at) (sym (cond-true (y.is_window m) (found (y.leaf m) e) (refused (at_byte 8 at)) t)) (subst (Lawful k) (ap y.leaf i) (laws.written_lawful (first_of s) w f (ap y.is_window i ∙ t)), l, r))
          (λ t. subst (WellRead k s at) (sym (cond-false (y.is_window m) (found (y.leaf m) e) (refused (at_byte 8 at)) t)) tt)
          (cases_Bool (y.is_window m))

  pub read_means : ReadMeans k
  read_means s at x end = by (made_at (layout_of k s).table (layout_of k s).plan s at) (says (layout_of k s).table s (layout_of k s).plan at)
    where
      shown : LayoutLaws (layout_of k s)
      shown = laws.layouts (first_of s)

      by : (a : Answer k.Made) → Says (layout_of k s).table s (layout_of k s).plan at a → judge (layout_of k s) shown s at a ≡ found x end → StandsFor k s at x end
      by (refused f) h q = absurd (found_refused (sym q))
      by (found m e) h q =
          let y = layout_of k s in
          let (w, f, i, l) = shown.stood s at m e h in
          ⊎_elim
          (λ t.
          let g = sym (cond-true (y.is_window m) (found (y.leaf m) e) (refused (at_byte 8 at)) t) ∙ q in
          let j : e ≡ end = cc in
          let n : y.leaf m ≡ x = cc in
          (w, f, subst (StandAsLeaf s at (y.numbers w)) j l, λ v p. subst (λ (z : L). Decides (admits k z v) (k.Meant w v)) (ap y.leaf i ∙ n) (laws.meant (first_of s) w v f p)))
          (λ t. absurd (found_refused (sym q ∙ cond-false (y.is_window m) (found (y.leaf m) e) (refused (at_byte 8 at)) t)))
          (cases_Bool (y.is_window m))

-- of a kind without sheets
pub no_layout_laws : {L : Type 0} (blank : L) → LayoutLaws (no_layout blank)
no_layout_laws blank = record {
  own = λ r. refl;
  below = λ w f. absurd w;
  stood = λ s at m end (n, size, w, h). absurd (true≢false (sym w.fits));
  makes = λ s at w end f r. absurd w;
  past = λ s at h. rw (byte_past s at h) refl;
  same = λ w v f g e. absurd w;
}
