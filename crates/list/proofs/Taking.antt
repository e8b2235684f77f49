-- What a list makes of a sheet.
use Rattle.std.specs.Prelude.{◌≡◌, ℕ, ◌+◌, ◌-◌, ◌<◌, ◌≤◌, true, false, cond, ◌⊎◌, List, [], ◌∷◌, ◌++◌, length, take, drop, Some, None, Option, ◌==◌, refl}
use Rattle.std.proofs.Common.{sym, ap, subst, ◌∙◌, arith, inl, inr}
use Rattle.std.proofs.Math.Seq.{take-append_seam, take-append-add}
use Rattle.std.proofs.lemmas.Bool.{false≢true, le-leb, leb-true, leb-false}
use Rattle.std.proofs.lemmas.List.{append-nil, append_assoc, length-append, length-map, length-take-le, map-append, take-append-drop}
use Rattle.faults.specs.declared.fault.Fault.{Fault}
use Rattle.faults.specs.declared.fault.Refusal.{Refusal}
use Rattle.faults.specs.declared.fault.Refusal.TheVariants.{TooLong, EndsEarly, BadNumber, UnknownByte, BadPart, ManyDivisors, OutOfRange, MinAboveMax, BadWeekdays, TableFull, ShortBuffer}
use Rattle.faults.specs.Faults.{Answer, Refused, refused, at_byte, number_of}
use Rattle.leaf.specs.Encoding.{Bytes}
use Rattle.leaf.specs.Grammar.{AnswersStand}
use Rattle.leaf.specs.Kind.{Kind, Laws, Lawful, before, first_of, layout_of, leaf_at}
use Rattle.leaf.specs.Laws.Judging.{answers_stand}
use Rattle.leaf.specs.Layouts.{LeafStands, OneAnswer, bytes_of, is_of_field, is_written_window, written_leaf}
use Rattle.leaf.specs.Plans.{Unfit}
use Rattle.list.specs.Lists.{All, inserted_all}
use Rattle.list.specs.Encoded.{IsLeaf, leaves_bytes, leaves_of, sheet_bytes}
use Rattle.list.specs.Held.{Tells, stopped}
use Rattle.list.specs.Sheets.{Outcome, ends, accepted_at, sheet_outcome}
use Rattle.list.specs.Taking.{HasUnfitField, LeafDue, HasLeaf, StopsBy, TakenTo, TakesSheet}
use Rattle.list.specs.declared.sheets.SheetAnswer.{SheetAnswer}
use Rattle.list.proofs.Encoded.{accepted_before, all_longer, bytes_append, leaves_stand, longer}
use Rattle.list.proofs.Fed.{accepted_full, accepted_not, left, left_all, left_end, left_stop, read_well, sheet_all, sheet_begun, sheet_empty, sheet_long, sheet_other}
use Rattle.list.proofs.Pouring.{sheet_pours}
use Rattle.list.proofs.Reading.{append_all}

-- a refusal is known by its number
refusal_of : ℕ → Refusal
refusal_of n =
    cond (n == 1) TooLong (cond (n == 2) EndsEarly (cond (n == 3) BadNumber (cond (n == 4) UnknownByte (cond (n == 5) BadPart
    (cond (n == 6) ManyDivisors (cond (n == 7) OutOfRange (cond (n == 8) MinAboveMax (cond (n == 9) BadWeekdays (cond (n == 10) TableFull ShortBuffer)))))))))

of_number : (r : Refusal) → refusal_of (number_of r) ≡ r
unfolding refusal_of
of_number TooLong = refl
of_number _ = refl

same_refusal : (r s : Refusal) → number_of r ≡ number_of s → r ≡ s
same_refusal r s e = sym (of_number r) ∙ (ap refusal_of e ∙ of_number s)

some_is : {f g : Refused} → ◌≡◌ {A = Option Refused} (Some f) (Some g) → f ≡ g
some_is e = cc

none_some : {X : Type 0} {g : Refused} → ◌≡◌ {A = Option Refused} None (Some g) → X
none_some e = let q : ◌≡◌ {A = ℕ} 0 1 = cc in absurd (omega (arith, q))

byte_of : {m j p q : ℕ} → at_byte m p ≡ at_byte j q → p ≡ q
byte_of e = let g = ap (λ (r : Refused). r.byte) e in cc

no_fault : (f : Option Fault) → stopped f ≡ None → f ≡ None
no_fault None e = refl
no_fault (Some f) e = none_some (sym e)

module _ {V L : Type 0} (k : Kind V L) (laws : Laws k) (n : ℕ) (bytes : List ℕ) (h : List L) where
  abbrev b : ℕ
  b = first_of bytes

  abbrev Upto : ℕ → List k.Written → Type 0
  Upto at ws = TakenTo k n bytes h at ws

  abbrev into : List k.Written → List L
  into ws = inserted_all (before k) (leaves_of k b ws) h

  abbrev outcome : Outcome L
  outcome = sheet_outcome k n bytes h

  module _ (at : ℕ) (ws : List k.Written) (t : Upto at ws) where
    ends_there : at ≡ length (sheet_bytes k b ws)
    ends_there = sym (length-take-le at bytes t.within) ∙ ap length t.stand

    whole_is : bytes ≡ sheet_bytes k b ws ++ drop at bytes
    whole_is = sym (take-append-drop at bytes) ∙ ap (λ (xs : List ℕ). xs ++ drop at bytes) t.stand

    -- once leaves are taken, what comes of the sheet is what comes of the rest
    up_to : outcome ≡ accepted_before (leaves_of k b ws) (left k n bytes at (into ws))
    up_to =
        sheet_begun k n bytes h (record { short = t.short; some = let e = ends_there in let i = t.within in omega (arith, e, i); of_kind = t.of_kind })
        ∙ (leaves_stand k laws b n bytes ws [] (drop at bytes) h t.leaves whole_is t.room
        ∙ ap (λ (j : ℕ). accepted_before (leaves_of k b ws) (left k n bytes j (into ws))) (sym ends_there))

    stop_at : (f : Refused) → at < length bytes → accepted_at k n bytes at (into ws) ≡ refused f → outcome.stop ≡ Some f
    stop_at f m q = ap (λ (o : Outcome L). o.stop) (up_to ∙ ap (accepted_before (leaves_of k b ws)) (left_stop k n bytes at (into ws) f m q))

    stop_none : length bytes ≤ at → outcome.stop ≡ None
    stop_none z = ap (λ (o : Outcome L). o.stop) (up_to ∙ ap (accepted_before (leaves_of k b ws)) (left_end k n bytes at (into ws) z))

    most : at ≤ outcome.start
    most =
        let P : ℕ → List L → Outcome L → Type 0 = λ at g o. at ≤ o.start in
        let c : at ≤ (left k n bytes at (into ws)).start =
        left_all k n bytes laws P (λ at g z. omega arith) (λ at g r m q. omega arith) (λ at g x e m q f. omega arith) (λ at g x e o q f i. let j = (read_well k n bytes laws at x e q).1 in omega (arith, i, j)) at (into ws) in
        let i = ap (λ (o : Outcome L). o.start) up_to in
        omega (arith, c, i)

    -- and the leaf that stands there
    taken_on : (w : k.Written) (e : ℕ) → LeafStands (layout_of k bytes) bytes at w e → is_written_window (layout_of k bytes) w ≡ true → e ≤ length bytes → length ws < n - length h → Upto e (ws ++ w ∷ [])
    taken_on w e s i z r =
        let c = bytes_of (k.layout b) w in
        let m = length-append ws (w ∷ []) in
        let all : bytes ≡ sheet_bytes k b ws ++ (c ++ drop e bytes) = whole_is ∙ ap (λ (xs : List ℕ). sheet_bytes k b ws ++ xs) s.bytes in
        let p : e ≡ length (sheet_bytes k b ws) + length c = s.ends ∙ ap (λ (j : ℕ). j + length c) ends_there in
        let q : c ≡ leaves_bytes k b (w ∷ []) = sym (append-nil c) in
        record {
          short = t.short;
          of_kind = t.of_kind;
          leaves = append_all (IsLeaf k b) ws (w ∷ []) t.leaves (record { fits = s.fits; window = i }, tt);
          stand =
              (λ j. take (p j) (all j))
              ∙ (take-append-add (sheet_bytes k b ws) (c ++ drop e bytes) (length c)
              ∙ ap (λ (xs : List ℕ). sheet_bytes k b ws ++ xs) (take-append_seam c (drop e bytes) ∙ q)
              ∙ ap (λ (xs : List ℕ). b ∷ xs) (sym (bytes_append k laws b ws (w ∷ []))));
          within = z;
          room = omega (arith, m, r);
        }

  module _ (held : Bytes bytes) where
    judged : (at : ℕ) → AnswersStand k bytes at
    judged at = answers_stand k laws bytes at held

    -- what was found of one name of a refusal holds of each refusal of its number
    also : (s : Refusal) (p : ℕ) → StopsBy k n bytes h s p → (r : Refusal) → number_of s ≡ number_of r → StopsBy k n bytes h r p
    also s p c r e = subst (λ (z : Refusal). StopsBy k n bytes h z p) (same_refusal s r e) c

    of_field : (r : Refusal) (p : ℕ) → is_of_field (number_of r) ≡ true → HasUnfitField k n bytes h (number_of r) p → StopsBy k n bytes h r p
    of_field UnknownByte p f x = inr x
    of_field BadPart p f x = x
    of_field ManyDivisors p f x = x
    of_field OutOfRange p f x = x
    of_field BadWeekdays p f x = x
    of_field _ p f x = absurd (false≢true f)

    -- how a sheet ends: with its last byte, or by a refusal
    data End : Option Refused → Type 0 where
      over : {ws : List k.Written} → Upto (length bytes) ws → End None
      by_number : (m p : ℕ) → ((r : Refusal) → m ≡ number_of r → StopsBy k n bytes h r p) → End (Some (at_byte m p))

    leaf_end : (at : ℕ) → LeafDue k n bytes h at → (f : Refused) → leaf_at k bytes at ≡ refused f → End (Some f)
    leaf_end at d f q = by (judged at).one
      where
        is : {g : Refused} → leaf_at k bytes at ≡ refused g → End (Some g) → End (Some f)
        is {g} z = let y : ◌≡◌ {A = Answer L} (refused g) (refused f) = sym z ∙ q in let e : g ≡ f = cc in subst (λ (x : Refused). End (Some x)) e

        by : OneAnswer (layout_of k bytes) bytes at (leaf_at k bytes at) → End (Some f)
        by (inl (x, e, z)) = let y : ◌≡◌ {A = ℕ} 0 1 = cc in absurd (omega (arith, y))
        by (inr (inl z)) = is z (by_number 2 (length bytes) (also EndsEarly (length bytes) (refl, inr (at, d, (judged at).two.0 z))))
        by (inr (inr (inl (p, z)))) = is z (by_number 3 p (also BadNumber p (at, d, ((judged at).three p).0 z)))
        by (inr (inr (inr (inl (m, p, g, z))))) =
            is z (by_number m p (λ r e. of_field r p (subst (λ (i : ℕ). is_of_field i ≡ true) e g) (at, d, subst (λ (i : ℕ). Unfit (layout_of k bytes).table bytes (layout_of k bytes).plan at i p) e (((judged at).unfit m p g).0 z))))
        by (inr (inr (inr (inr (p, z))))) =
            let (i, x) = ((judged at).eight p).0 z in
            is z (by_number 8 p (also MinAboveMax p (subst (λ (j : ℕ). LeafDue k n bytes h j × HasLeaf k n bytes h false j) (sym i) (d, x))))

    -- the leaves accepted behind some, as written, and how the sheet ends
    record Reaches (xs : List L) (o : Outcome L) : Type 0 where
      pub leaves : List k.Written
      pub stand : Upto o.start leaves ⊎ ((o.start ≡ 0) × (leaves ≡ []))
      pub taken : xs ++ o.taken ≡ leaves_of k b leaves
      pub end : End o.stop

    none_taken : (s : Refusal) → StopsBy k n bytes h s 0 → Reaches [] (ends 0 h (Some (at_byte (number_of s) 0)))
    none_taken s c = record { leaves = []; stand = inr (refl, refl); taken = refl; end = by_number (number_of s) 0 (also s 0 c) }

    -- from a byte on, up to which leaves are taken
    abbrev On : ℕ → List L → Outcome L → Type 0
    On at g o = (ws : List k.Written) → Upto at ws → length g ≡ length h + length ws → Reaches (leaves_of k b ws) o

    stays : (at : ℕ) (g : List L) (s : Option Refused) (ws : List k.Written) → Upto at ws → End s → Reaches (leaves_of k b ws) (ends at g s)
    stays at g s ws t c = record { leaves = ws; stand = inl t; taken = append-nil (leaves_of k b ws); end = c }

    reaches : (at : ℕ) (g : List L) → On at g (left k n bytes at g)
    reaches =
        left_all k n bytes laws On
        (λ at g z ws t i. stays at g None ws t (over (subst (λ (j : ℕ). Upto j ws) (let y = t.within in omega (arith, y, z)) t)))
        (λ at g r m q ws t i. stays at g (Some r) ws t (leaf_end at (record { leaves = ws; taken = t; goes_on = m }) r q))
        (λ at g x e m q f ws t i.
        let (w, s, c, _) = ((judged at).read x e).0 q in
        let v : length ws ≡ n - length h = let y = leb-true n (length g) f in let z = t.room in omega (arith, i, y, z) in
        stays at g (Some (at_byte 10 at)) ws t (by_number 10 at (also TableFull at (record { leaves = ws; taken = t; goes_on = m }, v, (w, e, s, c)))))
        (λ at g x e o q f next ws t i.
        let (w, s, c, z) = ((judged at).read x e).0 q in
        let y = leb-false n (length g) f in
        let j = longer k x g in
        let l = length-append ws (w ∷ []) in
        let d = next (ws ++ w ∷ []) (taken_on at ws t w e s c (read_well k n bytes laws at x e q).2 (omega (arith, i, y))) (omega (arith, i, j, l)) in
        record {
          leaves = d.leaves;
          stand = d.stand;
          taken = (λ a. leaves_of k b ws ++ z a ∷ o.taken) ∙ (sym (append_assoc (leaves_of k b ws) (written_leaf (k.layout b) w ∷ []) o.taken) ∙ (ap (λ (xs : List L). xs ++ o.taken) (sym (map-append (written_leaf (k.layout b)) ws (w ∷ []))) ∙ d.taken));
          end = d.end;
        })

    first : (xs : List ℕ) → 0 < length xs → take 1 xs ≡ first_of xs ∷ []
    first [] i = absurd (omega (arith, i))
    first (x ∷ xs) i = refl

    all_reached : Reaches [] outcome
    all_reached =
        sheet_all k n bytes h (Reaches []) (λ l. none_taken TooLong (refl, l)) (λ q. none_taken EndsEarly (sym (ap length q), inl q)) (λ g s f. none_taken UnknownByte (inl (refl, (g, s, f))))
        (λ g. reaches 1 h [] (record { short = g.short; of_kind = g.of_kind; leaves = tt; stand = first bytes g.some; within = g.some; room = omega arith }) (omega arith))

    stops : (s : Option Refused) → End s → (r : Refusal) (p : ℕ) → s ≡ Some (at_byte (number_of r) p) → StopsBy k n bytes h r p
    stops _ (over t) r p e = none_some e
    stops _ (by_number m q f) r p e = let i = some_is e in subst (StopsBy k n bytes h r) (byte_of i) (f r (ap (λ (g : Refused). g.number) i))

    ends_by : (s : Option Refused) → End s → (f : Option Fault) → stopped f ≡ s → (f ≡ None) ⊎ ((r : Refusal) × (p : ℕ) × (stopped f ≡ Some (at_byte (number_of r) p)))
    ends_by s c None e = inl refl
    ends_by _ (over t) (Some f) e = none_some (sym e)
    ends_by _ (by_number m p c) (Some f) e =
        let z = some_is e in inr (f.refusal, p, ap (λ (g : Refused). Some g) (z ∙ ap (λ (j : ℕ). at_byte j p) (sym (ap (λ (g : Refused). g.number) z))))

    whole_by : (s : Option Refused) → End s → s ≡ None → (ws : List k.Written) × Upto (length bytes) ws
    whole_by _ (over {ws = ws} t) e = (ws, t)
    whole_by _ (by_number m p f) e = none_some (sym e)

    leaf_refuses : (at : ℕ) (d : LeafDue k n bytes h at) (f : Refused) → leaf_at k bytes at ≡ refused f → outcome.stop ≡ Some f
    leaf_refuses at d f q = stop_at at d.leaves d.taken f d.goes_on (accepted_not k n bytes at (into d.leaves) f q)

    unfit_stops : (m p : ℕ) → is_of_field m ≡ true → HasUnfitField k n bytes h m p → outcome.stop ≡ Some (at_byte m p)
    unfit_stops m p f (at, d, x) = leaf_refuses at d (at_byte m p) (((judged at).unfit m p f).1 x)

    stop_is : (m p : ℕ) → outcome ≡ ends 0 h (Some (at_byte m 0)) → p ≡ 0 → outcome.stop ≡ Some (at_byte m p)
    stop_is m p e z = ap (λ (o : Outcome L). o.stop) e ∙ ap (λ (j : ℕ). Some (at_byte m j)) (sym z)

    came : (r : Refusal) (p : ℕ) → StopsBy k n bytes h r p → outcome.stop ≡ Some (at_byte (number_of r) p)
    came TooLong p (z, g) = stop_is 1 p (sheet_long k n bytes h g) z
    came EndsEarly p (z, inl q) = stop_is 2 p (sheet_empty k n bytes h q) (z ∙ ap length q)
    came EndsEarly p (z, inr (at, d, x)) = leaf_refuses at d (at_byte 2 (length bytes)) ((judged at).two.1 x) ∙ ap (λ (j : ℕ). Some (at_byte 2 j)) (sym z)
    came BadNumber p (at, d, x) = leaf_refuses at d (at_byte 3 p) (((judged at).three p).1 x)
    came UnknownByte p (inl (z, (g, s, f))) = stop_is 4 p (sheet_other k n bytes h g s f) z
    came UnknownByte p (inr x) = unfit_stops 4 p refl x
    came BadPart p x = unfit_stops 5 p refl x
    came ManyDivisors p x = unfit_stops 6 p refl x
    came OutOfRange p x = unfit_stops 7 p refl x
    came BadWeekdays p x = unfit_stops 9 p refl x
    came MinAboveMax p (d, x) = leaf_refuses p d (at_byte 8 p) (((judged p).eight p).1 (refl, x))
    came TableFull p (d, f, (w, e, s, t)) =
        let x = written_leaf (layout_of k bytes) w in
        let c = all_longer k (leaves_of k b d.leaves) h in
        let m = length-map d.leaves (written_leaf (k.layout b)) in
        stop_at p d.leaves d.taken (at_byte 10 p) d.goes_on
        (accepted_full k n bytes p (into d.leaves) x e (((judged p).read x e).1 (w, s, t, refl)) (le-leb n (length (into d.leaves)) (omega (arith, c, m, f))))
    came ShortBuffer p x = absurd x

    pub takes_sheet : (a : SheetAnswer) (f : Option Fault) (h' : List L) → a.fault ≡ f → Tells (record a { fault = f }) outcome → h' ≡ outcome.held → TakesSheet k n bytes h a h'
    takes_sheet a f h' i t e =
        let c = all_reached in
        let s : stopped a.fault ≡ outcome.stop = ap stopped i ∙ t.fault in
        let p = sheet_pours k laws n bytes h in
        record {
          ends = ends_by outcome.stop c.end a.fault s;
          whole = ((λ z. whole_by outcome.stop c.end (sym s ∙ ap stopped z)), (λ (ws, x). no_fault a.fault (s ∙ stop_none (length bytes) ws x (omega arith))));
          refuses = λ r p. ((λ z. stops outcome.stop c.end r p (sym s ∙ z)), (λ x. s ∙ came r p x));
          leaves = c.leaves;
          stand = subst (λ (j : ℕ). Upto j c.leaves ⊎ ((j ≡ 0) × (c.leaves ≡ []))) (sym t.start) c.stand;
          most = λ at ws x. subst (λ (j : ℕ). at ≤ j) (sym t.start) (most at ws x);
          accepted = t.accepted ∙ (ap length c.taken ∙ length-map c.leaves (written_leaf (k.layout b)));
          lawful = subst (All (Lawful k)) c.taken p.lawful;
          held = e ∙ (p.held ∙ ap (λ (xs : List L). inserted_all (before k) xs h) c.taken);
          taken = sym c.taken;
          words = laws.refusals bytes;
        }
