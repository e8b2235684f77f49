-- What holds after every run.
use Rattle.std.proofs.Common.{◌≡◌, ℕ, true, ◌⊎◌, List, [], ◌∷◌, ◌++◌, sym, refl, ap, ◌∙◌, subst, inl, inr, append_assoc, append-nil}
use mathlib.Core.List.{cons≢nil}
use Rattle.leaf.specs.Kind.{Kind, Laws, Lawful, before, covers}
use Rattle.list.specs.Lists.{All, In}
use Rattle.list.specs.Readings.{Apart, Reads, Made}
use Rattle.list.specs.Runs.{Call, after, taken, reading, run_from, accepted_from, run, accepted, lines, Allowed, Unread, Late, Parted, Promised, Promises}
use Rattle.list.proofs.Core
use Rattle.list.proofs.Rows.{all_map}
use Rattle.list.proofs.Kept.{Clear}
use Rattle.list.proofs.Reading.{any_append, append_any, all_append_parts, append_all, pairs_map, reading_row, reading_clear, reading_twice, Stands, stands_trans, stands_more, reading_stands}
use Rattle.list.proofs.OverKinds.{ops, laws, from_made, parted, both, up_before}
use Rattle.list.proofs.Pouring.{poured, poured_any, any_poured, poured_row, Rowed, after_poured, taken_lawful, unread_or}
use Rattle.list.proofs.Relations.{made_admits, covered_admits, reads, one_reading}

module _ {V L : Type 0} (k : Kind V L) (w : Laws k) where
  pub lines_row : (h : List L) → Rowed k w h → Rowed k w (reading k h)
  lines_row h r = reading_row (ops k) (laws k w) h r

  pub lines_twice : (h : List L) → Rowed k w h → reading k (reading k h) ≡ reading k h
  lines_twice h r = reading_twice (ops k) (laws k w) h r

  pub after_row : (n : ℕ) (h : List L) (c : Call V L) → Rowed k w h → Allowed k c → Rowed k w (after k n h c)
  after_row n h c r p =
      elim (unread_or k w c) [
        | inl u ↦ subst (Rowed k w) (sym (after_poured k w n h c u)) (poured_row k w (taken k n h c) h r (taken_lawful k w n h c p))
        | inr f ↦ subst (Rowed k w) (sym (f n h).0) (lines_row h r)
      ]

  pub run_row : (n : ℕ) (cs : List (Call V L)) (h : List L) → Rowed k w h → All (Allowed k) cs → Rowed k w (run_from k n h cs)
  run_row n [] h r p = r
  run_row n (c ∷ cs) h r p = run_row n cs (after k n h c) (after_row n h c r p.0) p.1

  -- what is held stands for the accepted leaves, after each call
  abbrev Stand : List L → List L → Type 0
  Stand xs h = Stands (ops k) (laws k w) xs h

  read_stands : (h xs : List L) → All (Lawful k) xs → Rowed k w h → Stand xs h → Stand xs (reading k h)
  read_stands h xs q r s = stands_trans (ops k) (laws k w) xs h (reading k h) q r.0 (lines_row h r).0 s (reading_stands (ops k) (laws k w) h r)

  accepted_lawful : (n : ℕ) (cs : List (Call V L)) (h : List L) → All (Allowed k) cs → All (Lawful k) (accepted_from k n h cs)
  accepted_lawful n [] h p = tt
  accepted_lawful n (c ∷ cs) h p =
      append_all (Lawful k) (taken k n h c) (accepted_from k n (after k n h c) cs) (taken_lawful k w n h c p.0) (accepted_lawful n cs (after k n h c) p.1)

  after_stands : (n : ℕ) (h : List L) (c : Call V L) (xs : List L) → All (Lawful k) xs → Rowed k w h → Allowed k c → Stand xs h → Stand (xs ++ taken k n h c) (after k n h c)
  after_stands n h c xs q r p s =
      elim (unread_or k w c) [
        | inl u ↦ subst (Stand (xs ++ taken k n h c)) (sym (after_poured k w n h c u))
            (stands_more (ops k) (laws k w) xs h (taken k n h c) (poured k h (taken k n h c)) q r.0 (taken_lawful k w n h c p)
            (λ z. poured_any k (λ y. z ≡ y) (taken k n h c) h) (λ z. any_poured k (λ y. z ≡ y) (taken k n h c) h) s)
        | inr f ↦ subst (Stand (xs ++ taken k n h c)) (sym (f n h).0)
            (subst (λ (l : List L). Stand l (reading k h)) (sym (ap (λ (l : List L). xs ++ l) (f n h).1 ∙ append-nil xs)) (read_stands h xs q r s))
      ]

  run_stands : (n : ℕ) (cs : List (Call V L)) (h xs : List L) → All (Lawful k) xs → Rowed k w h → All (Allowed k) cs → Stand xs h → Stand (xs ++ accepted_from k n h cs) (run_from k n h cs)
  run_stands n [] h xs q r p s = subst (λ (l : List L). Stand l h) (sym (append-nil xs)) s
  run_stands n (c ∷ cs) h xs q r p s =
      subst (λ (l : List L). Stand l (run_from k n (after k n h c) cs)) (append_assoc xs (taken k n h c) (accepted_from k n (after k n h c) cs))
      (run_stands n cs (after k n h c) (xs ++ taken k n h c) (append_all (Lawful k) xs (taken k n h c) q (taken_lawful k w n h c p.0)) (after_row n h c r p.0) p.1 (after_stands n h c xs q r p.0 s))

  -- with no reading, what is held is what was held and what was accepted
  run_in : (n : ℕ) (cs : List (Call V L)) (h : List L) → All (Unread k) cs → (x : L) → In x (run_from k n h cs) → In x h ⊎ In x (accepted_from k n h cs)
  run_in n [] h u x i = inl i
  run_in n (c ∷ cs) h u x i = join' (run_in n cs (after k n h c) u.1 x i)
    where
      join' : In x (after k n h c) ⊎ In x (accepted_from k n (after k n h c) cs) → In x h ⊎ In x (taken k n h c ++ accepted_from k n (after k n h c) cs)
      join' (inl j) = elim (poured_any k (λ z. x ≡ z) (taken k n h c) h (subst (λ (l : List L). In x l) (after_poured k w n h c u.0) j)) [ inl a ↦ inl a | inr b ↦ inr (append_any (λ z. x ≡ z) (taken k n h c) (accepted_from k n (after k n h c) cs) (inl b)) ]
      join' (inr j) = inr (append_any (λ z. x ≡ z) (taken k n h c) (accepted_from k n (after k n h c) cs) (inr j))

  in_run : (n : ℕ) (cs : List (Call V L)) (h : List L) → All (Unread k) cs → (x : L) → In x h ⊎ In x (accepted_from k n h cs) → In x (run_from k n h cs)
  in_run n [] h u x (inl i) = i
  in_run n [] h u x (inr i) = absurd i
  in_run n (c ∷ cs) h u x i = in_run n cs (after k n h c) u.1 x (split i)
    where
      one : In x h ⊎ In x (taken k n h c) → In x (after k n h c)
      one i = subst (λ (l : List L). In x l) (sym (after_poured k w n h c u.0)) (any_poured k (λ z. x ≡ z) (taken k n h c) h i)

      split : In x h ⊎ In x (taken k n h c ++ accepted_from k n (after k n h c) cs) → In x (after k n h c) ⊎ In x (accepted_from k n (after k n h c) cs)
      split (inl a) = inl (one (inl a))
      split (inr b) = elim (any_append (λ z. x ≡ z) (taken k n h c) (accepted_from k n (after k n h c) cs) b) [ inl a ↦ inl (one (inr a)) | inr d ↦ inr d ]

  pub run_append : (n : ℕ) (p q : List (Call V L)) (h : List L) → run_from k n h (p ++ q) ≡ run_from k n (run_from k n h p) q
  run_append n [] q h = refl
  run_append n (c ∷ p) q h = run_append n p q (after k n h c)

  accepted_append : (n : ℕ) (p q : List (Call V L)) (h : List L) → accepted_from k n h (p ++ q) ≡ accepted_from k n h p ++ accepted_from k n (run_from k n h p) q
  accepted_append n [] q h = refl
  accepted_append n (c ∷ p) q h = ap (λ (r : List L). taken k n h c ++ r) (accepted_append n p q (after k n h c)) ∙ sym (append_assoc (taken k n h c) (accepted_from k n (after k n h c) p) (accepted_from k n (run_from k n (after k n h c) p) q))

  append_none : (xs ys : List L) → xs ++ ys ≡ [] → (xs ≡ []) × (ys ≡ [])
  append_none [] ys e = (refl, e)
  append_none (x ∷ xs) ys e = absurd (cons≢nil e)

  -- where nothing is accepted any more the lines stay
  settled : (n : ℕ) (cs : List (Call V L)) (h : List L) → Rowed k w h → All (Allowed k) cs → accepted_from k n h cs ≡ [] → reading k (run_from k n h cs) ≡ reading k h
  settled n [] h r p e = refl
  settled n (c ∷ cs) h r p e =
      let q = append_none (taken k n h c) (accepted_from k n (after k n h c) cs) e in
      settled n cs (after k n h c) (after_row n h c r p.0) p.1 q.1
      ∙ elim (unread_or k w c) [
        | inl u ↦ ap (reading k) (after_poured k w n h c u ∙ ap (poured k h) q.0)
        | inr f ↦ ap (reading k) (f n h).0 ∙ lines_twice h r
      ]

  -- where no accepted leaf comes after a reading the lines are the reading of the accepted leaves
  late_reads : (n : ℕ) (cs : List (Call V L)) → All (Allowed k) cs → Late k n cs → Reads k (accepted k n cs) (lines k n cs)
  late_reads n cs p d =
      let f = d.first in
      let t = d.rest in
      let q = all_append_parts (Allowed k) f t (subst (All (Allowed k)) d.whole p) in
      let e : accepted k n cs ≡ accepted k n f =
      ap (accepted k n) d.whole ∙ (accepted_append n f t [] ∙ (ap (λ (r : List L). accepted k n f ++ r) d.settled ∙ append-nil (accepted k n f))) in
      let row : Rowed k w (run k n f) = run_row n f [] (tt, tt) q.0 in
      let shown : lines k n cs ≡ reading k (run k n f) =
      ap (λ (c : List (Call V L)). reading k (run k n c)) d.whole ∙ (ap (reading k) (run_append n f t []) ∙ settled n t (run k n f) row q.1 d.settled) in
      subst (Reads k (accepted k n cs)) (sym shown)
      (reads k w (accepted k n cs) (run k n f) (accepted_lawful n cs [] p) row (λ x. (
        λ i. in_run n f [] d.unread x (inr (subst (λ (l : List L). In x l) e i)),
        λ i. subst (λ (l : List L). In x l) (sym e) (elim (run_in n f [] d.unread x i) [ inl z ↦ absurd z | inr j ↦ j ]),
      )))

  pub promises : Promises k
  promises = record { runs = runs; one_reading = one_reading k w }
    where
      runs : (n : ℕ) (cs : List (Call V L)) → All (Allowed k) cs → Promised k n cs (lines k n cs)
      runs n cs p =
          let h = run k n cs in
          let xs = accepted k n cs in
          let shown = lines k n cs in
          let row : Rowed k w h = run_row n cs [] (tt, tt) p in
          let ok : All (Lawful k) shown = (lines_row h row).0 in
          let lawful : All (Lawful k) xs = accepted_lawful n cs [] p in
          let stand : Stand xs shown = read_stands h xs lawful row (run_stands n cs [] [] tt (tt, tt) p (tt, tt)) in
          let made : All (Made k xs) shown = all_map (Core.Made (ops k) xs) (Made k xs) (from_made k w xs) shown stand.0 in
          let read : Reads k h shown = reads k w h h row.0 row (λ x. (λ i. i, λ i. i)) in
          record {
            given = refl;
            exact = λ v. (made_admits k w xs shown lawful ok made v, covered_admits k w xs shown lawful ok stand.1 v);
            pinned = record {
              ascending = pairs_map (Lawful k) (Core.Up (ops k)) (λ a b. before k a b ≡ true) (λ a b _ _. up_before k w a b) shown ok (lines_row h row).1;
              covered = stand.1;
              made = made;
            };
            read = read;
            whole = late_reads n cs p;
            parted = both k w (Clear (covers k)) (Apart k) (Parted k) (λ a b s t. (s.0, s.1, parted k w a b t)) shown (reading_clear (ops k) (laws k w) h) read.uncovered.apart;
            orderless = λ m ds q u v f. one_reading k w xs (accepted k m ds) shown (lines k m ds) lawful f (late_reads n cs p u) (late_reads m ds q v);
          }
