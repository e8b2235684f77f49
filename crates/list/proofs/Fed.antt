-- The leaves of a sheet, one after the other, from its first byte on.
use Rattle.std.proofs.Common.{◌≡◌, ℕ, zero, suc, ◌+◌, ◌-◌, ◌<◌, ◌≤◌, Bool, true, false, cond, ltb, List, [], ◌∷◌, length, Some, None, refl, sym, ap, ◌∙◌, subst, arith}
use Rattle.std.proofs.lemmas.Bool.{cond_both, cond-true, cond-false, lt-ltb, le-ltb, ltb-true, ltb-false, true≢false}
use Rattle.faults.specs.Faults.{Refused, Answer, found, refused, at_byte}
use Rattle.leaf.specs.Kind.{Kind, Laws, before, first_of, leaf_at}
use Rattle.leaf.specs.Grammar.{WellRead}
use Rattle.leaf.specs.Laws.Judging.{well_read}
use Rattle.list.specs.Lists.{inserted}
use Rattle.list.specs.Sheets.{Outcome, ends, after_leaf, judged, is_full, accepted_at, fed, first_byte, sheet_outcome}

module _ {L A : Type 0} where
  judged_both : (P : A → Type 0) (a : Answer L) (f : Refused → A) (g : L → ℕ → A)
      → ((r : Refused) → a ≡ refused r → P (f r)) → ((x : L) (e : ℕ) → a ≡ found x e → P (g x e)) → P (judged a f g)
  judged_both P (found x e) f g p q = q x e refl
  judged_both P (refused r) f g p q = p r refl

  judged_same : (a : Answer L) (f : Refused → A) (g h : L → ℕ → A) → ((x : L) (e : ℕ) → a ≡ found x e → g x e ≡ h x e) → judged a f g ≡ judged a f h
  judged_same (found x e) f g h p = p x e refl
  judged_same (refused r) f g h p = refl

module _ {V L : Type 0} (k : Kind V L) (n : ℕ) (bytes : List ℕ) where
  -- a leaf is accepted if it is read and there is a place for it
  abbrev accepts : List L → ℕ → Answer L → Answer L
  accepts h at a = judged a refused (λ x e. cond (is_full n h) (refused (at_byte 10 at)) (found x e))

  pub accepted_is : (at : ℕ) (h : List L) (x : L) (e : ℕ) → leaf_at k bytes at ≡ found x e → is_full n h ≡ false → accepted_at k n bytes at h ≡ found x e
  accepted_is at h x e q f = ap (accepts h at) q ∙ cond-false (is_full n h) (refused (at_byte 10 at)) (found x e) f

  pub accepted_full : (at : ℕ) (h : List L) (x : L) (e : ℕ) → leaf_at k bytes at ≡ found x e → is_full n h ≡ true → accepted_at k n bytes at h ≡ refused (at_byte 10 at)
  accepted_full at h x e q f = ap (accepts h at) q ∙ cond-true (is_full n h) (refused (at_byte 10 at)) (found x e) f

  pub accepted_not : (at : ℕ) (h : List L) (f : Refused) → leaf_at k bytes at ≡ refused f → accepted_at k n bytes at h ≡ refused f
  accepted_not at h f q = ap (accepts h at) q

  accepted_found : (at : ℕ) (h : List L) (x : L) (e : ℕ) → accepted_at k n bytes at h ≡ found x e → leaf_at k bytes at ≡ found x e
  accepted_found at h x e = by (leaf_at k bytes at) (is_full n h)
    where
      by : (a : Answer L) (b : Bool) → judged a refused (λ x e. cond b (refused (at_byte 10 at)) (found x e)) ≡ found x e → a ≡ found x e
      by (found y d) false q = q
      by (found y d) true q = cc
      by (refused r) b q = cc

  -- what comes of the leaves from one on
  abbrev pub left : ℕ → List L → Outcome L
  left at h = fed k n bytes (length bytes) at h

  abbrev go : ℕ → List L → ℕ → Answer L → Outcome L
  go steps h at a = judged a (λ r. ends at h (Some r)) (λ x e. after_leaf x (fed k n bytes steps e (inserted (before k) x h)))

  fed_end : (steps at : ℕ) (h : List L) → length bytes ≤ at → fed k n bytes steps at h ≡ ends at h None
  fed_end zero at h l = refl
  fed_end (suc steps) at h l = cond-false (ltb at (length bytes)) (go steps h at (accepted_at k n bytes at h)) (ends at h None) (le-ltb at (length bytes) l)

  fed_on : (steps at : ℕ) (h : List L) → at < length bytes → fed k n bytes (suc steps) at h ≡ go steps h at (accepted_at k n bytes at h)
  fed_on steps at h l = cond-true (ltb at (length bytes)) (go steps h at (accepted_at k n bytes at h)) (ends at h None) (lt-ltb at (length bytes) l)

  fed_stop : (steps at : ℕ) (h : List L) (r : Refused) → length bytes - at ≤ steps → at < length bytes → accepted_at k n bytes at h ≡ refused r → fed k n bytes steps at h ≡ ends at h (Some r)
  fed_stop zero at h r l m q = absurd (omega arith)
  fed_stop (suc steps) at h r l m q = fed_on steps at h m ∙ ap (go steps h at) q

  pub left_end : (at : ℕ) (h : List L) → length bytes ≤ at → left at h ≡ ends at h None
  left_end at h l = fed_end (length bytes) at h l

  pub left_stop : (at : ℕ) (h : List L) (r : Refused) → at < length bytes → accepted_at k n bytes at h ≡ refused r → left at h ≡ ends at h (Some r)
  left_stop at h r m q = fed_stop (length bytes) at h r (omega arith) m q

  module _ (w : Laws k) where
    -- a leaf that is read is lawful, and ends past its start and within the sheet
    pub read_well : (at : ℕ) (x : L) (e : ℕ) → leaf_at k bytes at ≡ found x e → WellRead k bytes at (found x e)
    read_well at x e q = subst (WellRead k bytes at) q (well_read k w bytes at)

    pub accepted_well : (at : ℕ) (h : List L) (x : L) (e : ℕ) → accepted_at k n bytes at h ≡ found x e → WellRead k bytes at (found x e)
    accepted_well at h x e q = read_well at x e (accepted_found at h x e q)

    -- more steps than bytes are left change nothing
    fed_more : (steps at : ℕ) (h : List L) → length bytes - at ≤ steps → fed k n bytes steps at h ≡ fed k n bytes (suc steps) at h
    fed_more zero at h l = sym (fed_end 1 at h (omega arith))
    fed_more (suc steps) at h l =
        ap (λ o. cond (ltb at (length bytes)) o (ends at h None))
        (judged_same (accepted_at k n bytes at h) (λ r. ends at h (Some r)) (λ x e. after_leaf x (fed k n bytes steps e (inserted (before k) x h))) (λ x e. after_leaf x (fed k n bytes (suc steps) e (inserted (before k) x h)))
        (λ x e q. let b = accepted_well at h x e q in ap (after_leaf x) (fed_more steps e (inserted (before k) x h) (omega arith))))

    fed_leaf : (steps at : ℕ) (h : List L) (x : L) (e : ℕ) → length bytes - at ≤ steps → at < length bytes → accepted_at k n bytes at h ≡ found x e
        → fed k n bytes steps at h ≡ after_leaf x (fed k n bytes steps e (inserted (before k) x h))
    fed_leaf zero at h x e l m q = absurd (omega arith)
    fed_leaf (suc steps) at h x e l m q =
        let b = accepted_well at h x e q in
        fed_on steps at h m ∙ (ap (go steps h at) q ∙ ap (after_leaf x) (fed_more steps e (inserted (before k) x h) (omega arith)))

    pub left_leaf : (at : ℕ) (h : List L) (x : L) (e : ℕ) → at < length bytes → accepted_at k n bytes at h ≡ found x e → left at h ≡ after_leaf x (left e (inserted (before k) x h))
    left_leaf at h x e m q = fed_leaf (length bytes) at h x e (omega arith) m q

    -- what holds at the end of the leaves, at a leaf that is not read or has no place, and of a leaf before what follows it, holds from each leaf on
    module _ (P : ℕ → List L → Outcome L → Type 0)
        (over : (at : ℕ) (h : List L) → length bytes ≤ at → P at h (ends at h None))
        (unread : (at : ℕ) (h : List L) (r : Refused) → at < length bytes → leaf_at k bytes at ≡ refused r → P at h (ends at h (Some r)))
        (full : (at : ℕ) (h : List L) (x : L) (e : ℕ) → at < length bytes → leaf_at k bytes at ≡ found x e → is_full n h ≡ true → P at h (ends at h (Some (at_byte 10 at))))
        (one : (at : ℕ) (h : List L) (x : L) (e : ℕ) (o : Outcome L) → leaf_at k bytes at ≡ found x e → is_full n h ≡ false → P e (inserted (before k) x h) o → P at h (after_leaf x o)) where
      fed_all : (steps at : ℕ) (h : List L) → length bytes ≤ steps + at → P at h (fed k n bytes steps at h)
      fed_all zero at h l = over at h (omega arith)
      fed_all (suc steps) at h l =
          let Q : Answer L → Type 0 = λ a. P at h (go steps h at a) in
          cond_both (ltb at (length bytes)) (go steps h at (accepted_at k n bytes at h)) (ends at h None) (P at h)
          (λ t.
          judged_both Q (leaf_at k bytes at) refused (λ x e. cond (is_full n h) (refused (at_byte 10 at)) (found x e))
          (λ r q. unread at h r (ltb-true at (length bytes) t) q)
          (λ x e q.
          let b = read_well at x e q in
          cond_both (is_full n h) (refused (at_byte 10 at)) (found x e) Q
          (λ f. full at h x e (ltb-true at (length bytes) t) q f)
          (λ f. one at h x e _ q f (fed_all steps e (inserted (before k) x h) (omega arith)))))
          (λ t. over at h (ltb-false at (length bytes) t))

      pub left_all : (at : ℕ) (h : List L) → P at h (left at h)
      left_all at h = fed_all (length bytes) at h (omega arith)

  -- a sheet of the kind begins
  pub record Begins : Type 0 where
    pub short : length bytes ≤ 32768
    pub some : 0 < length bytes
    pub of_kind : k.kind_byte (first_of bytes) ≡ true

  module _ (h : List L) where
    module _ (P : Outcome L → Type 0)
        (long : 32768 < length bytes → P (ends 0 h (Some (at_byte 1 0))))
        (empty : bytes ≡ [] → P (ends 0 h (Some (at_byte 2 0))))
        (other : length bytes ≤ 32768 → 0 < length bytes → k.kind_byte (first_of bytes) ≡ false → P (ends 0 h (Some (at_byte 4 0))))
        (begun : Begins → P (left 1 h)) where
      by_first : (bs : List ℕ) → bytes ≡ bs → length bytes ≤ 32768 → P (first_byte k n bytes bs h)
      by_first [] q g = empty q
      by_first (b ∷ bs) q g =
          let some : 0 < length bytes = let z = ap length q in omega (arith, z) in
          let kind : k.kind_byte (first_of bytes) ≡ k.kind_byte b = ap (λ (xs : List ℕ). k.kind_byte (first_of xs)) q in
          cond_both (k.kind_byte b) (left 1 h) (ends 0 h (Some (at_byte 4 0))) P
          (λ t. begun (record { short = g; some = some; of_kind = kind ∙ t }))
          (λ t. other g some (kind ∙ t))

      pub sheet_all : P (sheet_outcome k n bytes h)
      sheet_all =
          cond_both (ltb 32768 (length bytes)) (ends 0 h (Some (at_byte 1 0))) (first_byte k n bytes bytes h) P
          (λ t. long (ltb-true 32768 (length bytes) t))
          (λ t. by_first bytes refl (ltb-false 32768 (length bytes) t))

    no_bytes : {X : Type 0} → bytes ≡ [] → 0 < length bytes → X
    no_bytes q s = absurd (let z = ap length q in omega (arith, z, s))

    no_kind : {X : Type 0} → k.kind_byte (first_of bytes) ≡ true → k.kind_byte (first_of bytes) ≡ false → X
    no_kind t f = absurd (true≢false (sym t ∙ f))

    pub sheet_long : 32768 < length bytes → sheet_outcome k n bytes h ≡ ends 0 h (Some (at_byte 1 0))
    sheet_long l = cond-true (ltb 32768 (length bytes)) (ends 0 h (Some (at_byte 1 0))) (first_byte k n bytes bytes h) (lt-ltb 32768 (length bytes) l)

    pub sheet_empty : bytes ≡ [] → sheet_outcome k n bytes h ≡ ends 0 h (Some (at_byte 2 0))
    sheet_empty q =
        sheet_all (λ o. o ≡ ends 0 h (Some (at_byte 2 0))) (λ l. no_bytes q (omega arith)) (λ _. refl) (λ _ s _. no_bytes q s) (λ b. no_bytes q b.some)

    pub sheet_other : length bytes ≤ 32768 → 0 < length bytes → k.kind_byte (first_of bytes) ≡ false → sheet_outcome k n bytes h ≡ ends 0 h (Some (at_byte 4 0))
    sheet_other g s f =
        sheet_all (λ o. o ≡ ends 0 h (Some (at_byte 4 0))) (λ l. absurd (omega (arith, g, l))) (λ q. no_bytes q s) (λ _ _ _. refl) (λ b. no_kind b.of_kind f)

    pub sheet_begun : Begins → sheet_outcome k n bytes h ≡ left 1 h
    sheet_begun b =
        sheet_all (λ o. o ≡ left 1 h) (λ l. absurd (let s = b.short in omega (arith, s, l))) (λ q. no_bytes q b.some) (λ _ _ f. no_kind b.of_kind f) (λ _. refl)
