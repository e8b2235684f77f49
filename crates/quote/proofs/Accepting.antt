-- How many leaves a run of sheets has accepted: as many as are held.
use Rattle.std.proofs.Common.{◌≡◌, ℕ, zero, suc, ◌+◌, ◌≤◌, Bool, true, false, cond, List, [], ◌∷◌, ◌++◌, map, length, nat_lt, Some, None, sym, ap, refl, ◌∙◌, append_assoc, append-nil, arith, length-append}
use Rattle.std.proofs.lemmas.List.{length-take}
use Rattle.std.specs.List.{list_any}
use Rattle.faults.specs.Faults.{Answer, at_byte, found, refused}
use Rattle.leaf.specs.Kind.{Kind, before}
use Rattle.list.specs.Held.{Leads, held_of, places_of}
use Rattle.list.specs.Lists.{inserted}
use Rattle.list.specs.Runs.{Call, accepted, accepted_from, after, run, run_from, taken}
use Rattle.list.specs.Runs.Call.{sheet}
use Rattle.list.specs.Sheets.{Outcome, accepted_at, after_leaf, ends, fed, first_byte, judged, sheet_outcome}
use Rattle.list.specs.declared.leaves.Leaves.{Leaves}

inserted_length : {X : Type 0} (up : X → X → Bool) (x : X) (xs : List X) → length (inserted up x xs) ≡ length xs + 1
inserted_length up x [] = omega arith
inserted_length up x (y ∷ ys) = go (list_any (λ z. up z x) (y ∷ ys)) (inserted_length up x ys)
  where
    go : (t : Bool) → length (inserted up x ys) ≡ length ys + 1 → length (cond t (y ∷ inserted up x ys) (x ∷ (y ∷ ys))) ≡ length (y ∷ ys) + 1
    go true e = omega arith
    go false e = omega arith

module _ {V L : Type 0} (k : Kind V L) (n : ℕ) where
  -- what is held is what was held and what was accepted
  abbrev Grows : List L → Outcome L → Type 0
  Grows h o = length o.held ≡ length h + length o.taken

  fed_grows : (bytes : List ℕ) (steps at : ℕ) (h : List L) → Grows h (fed k n bytes steps at h)
  fed_grows bytes zero at h = omega arith
  fed_grows bytes (suc steps) at h = go (nat_lt at (length bytes)) (accepted_at k n bytes at h) (λ x e. fed_grows bytes steps e (inserted (before k) x h))
    where
      one : (a : Answer L) → ((x : L) (e : ℕ) → Grows (inserted (before k) x h) (fed k n bytes steps e (inserted (before k) x h))) →
          Grows h (judged a (λ r. ends at h (Some r)) (λ x e. after_leaf x (fed k n bytes steps e (inserted (before k) x h))))
      one (found x e) f = let i = f x e in let l = inserted_length (before k) x h in omega arith
      one (refused r) f = omega arith

      go : (t : Bool) (a : Answer L) → ((x : L) (e : ℕ) → Grows (inserted (before k) x h) (fed k n bytes steps e (inserted (before k) x h))) →
          Grows h (cond t (judged a (λ r. ends at h (Some r)) (λ x e. after_leaf x (fed k n bytes steps e (inserted (before k) x h)))) (ends at h None))
      go true a f = one a f
      go false a f = omega arith

  first_grows : (bytes : List ℕ) (bs : List ℕ) (h : List L) → Grows h (first_byte k n bytes bs h)
  first_grows bytes [] h = omega arith
  first_grows bytes (b ∷ bs) h = go (k.kind_byte b)
    where
      go : (t : Bool) → Grows h (cond t (fed k n bytes (length bytes) 1 h) (ends 0 h (Some (at_byte 4 0))))
      go true = fed_grows bytes (length bytes) 1 h
      go false = omega arith

  sheet_grows : (bytes : List ℕ) (h : List L) → Grows h (sheet_outcome k n bytes h)
  sheet_grows bytes h = go (nat_lt 32768 (length bytes))
    where
      go : (t : Bool) → Grows h (cond t (ends 0 h (Some (at_byte 1 0))) (first_byte k n bytes bytes h))
      go true = omega arith
      go false = first_grows bytes bytes h

  run_grows : (sheets : List (List ℕ)) (h : List L) → length (run_from k n h (map sheet sheets)) ≡ length h + length (accepted_from k n h (map sheet sheets))
  run_grows [] h = omega arith
  run_grows (b ∷ bs) h =
      let o = sheet_outcome k n b h in
      let one = sheet_grows b h in
      let more = run_grows bs o.held in
      let both = length-append o.taken (accepted_from k n o.held (map sheet bs)) in
      omega arith

  accepted_append : (p q : List (Call V L)) (h : List L) → accepted_from k n h (p ++ q) ≡ accepted_from k n h p ++ accepted_from k n (run_from k n h p) q
  accepted_append [] q h = refl
  accepted_append (c ∷ p) q h =
      ap (λ (r : List L). taken k n h c ++ r) (accepted_append p q (after k n h c)) ∙ sym (append_assoc (taken k n h c) (accepted_from k n (after k n h c) p) (accepted_from k n (run_from k n (after k n h c) p) q))

  -- a sheet more
  pub accepted_more : (cs : List (Call V L)) (b : List ℕ) → length (accepted k n (cs ++ sheet b ∷ [])) ≡ length (accepted k n cs) + length (sheet_outcome k n b (run k n cs)).taken
  accepted_more cs b =
      let o = sheet_outcome k n b (run k n cs) in
      ap length (accepted_append cs (sheet b ∷ []) [] ∙ ap (λ (r : List L). accepted k n cs ++ r) (append-nil o.taken)) ∙ length-append (accepted k n cs) o.taken

-- never more than the table has places
pub accepted_few : {V L : Type 0} (k : Kind V L) (sheets : List (List ℕ)) (l : Leaves V L) → Leads k (map sheet sheets) l → length (accepted k (places_of l) (map sheet sheets)) ≤ places_of l
accepted_few k sheets l leads =
    let n = places_of l in
    let grows = run_grows k n sheets [] in
    let held : length (held_of l) ≡ length (run k n (map sheet sheets)) = ap length leads.held in
    let few = length-take l.held l.table.now in
    omega arith
