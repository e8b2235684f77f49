-- Leaves inserted one after another.
use Rattle.std.proofs.Common.{◌≡◌, ℕ, zero, suc, ◌+◌, ◌<◌, List, [], ◌∷◌, ◌++◌, get_or, length, map, take, sym, ap, ◌∙◌, subst, arith}
use Rattle.std.proofs.lemmas.List.{append_assoc, map-append, take_more}
use Rattle.leaf.specs.Kind.{Kind, Lawful}
use Rattle.list.specs.Held.{Leads, LeadsOn}
use Rattle.list.specs.Lists.{All}
use Rattle.list.specs.Runs.{Call}
use Rattle.list.specs.Runs.Call.{insert}
use Rattle.list.specs.declared.leaves.Leaves.{Leaves}

all_at : {X : Type 0} (P : X → Type 0) (xs : List X) (i : ℕ) (d : X) → i < length xs → All P xs → P (get_or xs i d)
all_at P [] i d h a = absurd (omega arith)
all_at P (x ∷ xs) zero d h a = a.0
all_at P (x ∷ xs) (suc i) d h a = all_at P xs i d (omega arith) a.1

module _ {V L : Type 0} (k : Kind V L) (made : List L) (first : Leaves V L) where
  -- the first leaves, so many, are inserted
  abbrev pub Inserted : ℕ → Leaves V L → Type 0
  Inserted i l = (cs : List (Call V L)) → All (Lawful k) made → Leads k cs first → Leads k (cs ++ map insert (take i made)) l

  pub one_more : (i : ℕ) (x : L) (l l' : Leaves V L) → i < length made → x ≡ get_or made i x → Inserted i l → (Lawful k x → LeadsOn k (insert x) l l') → Inserted (i + 1) l'
  one_more i x l l' h e so put cs all leads =
      let lawful = subst (Lawful k) (sym e) (all_at (Lawful k) made i x h all) in
      let longer : (cs ++ map insert (take i made)) ++ insert x ∷ [] ≡ cs ++ map insert (take (i + 1) made) =
      append_assoc cs (map insert (take i made)) (insert x ∷ [])
      ∙ ap (λ (ds : List (Call V L)). cs ++ ds) (sym (map-append insert (take i made) (x ∷ [])) ∙ ap (map insert) (ap (λ (y : L). take i made ++ y ∷ []) e ∙ sym (take_more made i x h))) in
      subst (λ (ds : List (Call V L)). Leads k ds l') longer (put lawful (cs ++ map insert (take i made)) (so cs all leads))
