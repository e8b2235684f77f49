-- Leaves of flags, bounds and a rest show the laws of a layout, from those of their parts.
use Rattle.std.specs.Prelude.{◌≡◌, ℕ, ◌+◌, Bool, true, ◌&&◌, List, ◌∷◌, ◌++◌, drop, Some, None, Option, is_some, refl}
use Rattle.std.proofs.Common.{sym, ap, subst, ◌∙◌, inl, inr, arith}
use Rattle.std.proofs.lemmas.Bool.{and_from, and_parts}
use Rattle.leaf.specs.declared.bounds.Bounds.{Bounds}
use Rattle.leaf.specs.Fields.{byte, shape_at}
use Rattle.leaf.specs.Headed.{Headed, MadeLeaf, WrittenLeaf, headed_fits, headed_layout, headed_made, headed_numbers, headed_plan}
use Rattle.leaf.specs.Layouts.{AreLeafNumbers, AreNumbers, LayoutLaws, StandAsLeaf, StandInTurn, is_of_field}
use Rattle.leaf.specs.Numbers.{has_bit}
use Rattle.leaf.specs.Plans.{Plan, done, either, fits_if, numbers_if, Makes}
use Rattle.leaf.specs.Windows.{written}
use Rattle.leaf.specs.Laws.Fielded.{bounds_made, byte_made, byte_makes}
use Rattle.leaf.specs.Laws.Parts.{Part}
use Rattle.leaf.specs.Laws.Rows.{both_below, row_join, row_parts}
use Rattle.leaf.specs.Laws.Starts.{byte_past}

module _ {Role V W X R : Type 0} (h : Headed Role V W X R) where
  -- flags are those of their bounds, and the bounds that are written are those that their flags name; fits: under a sign
  pub record FlagLaws (fits : Bool → W → Bool) : Type 0 where
    pub there : (low high : Option W) → fits_if h.is_bound low ≡ true → fits_if h.is_bound high ≡ true →
        let n : ℕ = h.flags_of low high in
        (h.table.fits h.flags n ≡ true) × (has_bit n 0 ≡ is_some low) × (has_bit n 1 ≡ is_some high) × (fits_if (fits (has_bit n 2)) low ≡ true) × (fits_if (fits (has_bit n 3)) high ≡ true)
    pub back : (n : ℕ) (low high : Option W) → h.table.fits h.flags n ≡ true → has_bit n 0 ≡ is_some low → has_bit n 1 ≡ is_some high → fits_if (fits (has_bit n 2)) low ≡ true → fits_if (fits (has_bit n 3)) high ≡ true →
        (n ≡ h.flags_of low high) × (fits_if h.is_bound low ≡ true) × (fits_if h.is_bound high ≡ true)

  -- what a kind shows of its fields
  pub record HeadedLaws (fits : Bool → W → Bool) : Type 0 where
    pub own : (r : Role) → is_of_field (h.table.refusal r) ≡ true
    pub shape : h.table.shape h.flags ≡ byte
    pub flag : FlagLaws fits
    pub bounds : (n : Bool) → Part h.table (h.bound n) h.bound_numbers (fits n) h.value
    pub rest : Part h.table h.rest h.rest_numbers h.is_rest h.rest_value
    -- a bound as written has a value, and no two have the same; so have no two rests
    pub valued : (w : W) → h.is_bound w ≡ true → (v : V) × (h.value w ≡ Some v)
    pub same_bound : (w v : W) → h.is_bound w ≡ true → h.is_bound v ≡ true → h.value w ≡ h.value v → w ≡ v
    pub same_rest : (r s : R) → h.is_rest r ≡ true → h.is_rest s ≡ true → h.rest_value r ≡ h.rest_value s → r ≡ s

  module _ {fits : Bool → W → Bool} (k : HeadedLaws fits) where
    abbrev bounded : Bool → Bool → Plan Role (Option V)
    bounded present n = either present (h.bound n) (done None)

    abbrev numbers_of : Option W → List ℕ
    numbers_of = numbers_if h.bound_numbers

    bound_stood : (present n : Bool) (s : List ℕ) (at : ℕ) (x : Option V) (end : ℕ) → Makes h.table s (bounded present n) at x end → (o : Option W) × (present ≡ is_some o) × (fits_if (fits n) o ≡ true) × (written h.value o ≡ x) × StandInTurn s at (numbers_of o) end
    bound_stood present n s at x end (inl (e, m)) = let (w, c, i, r) = (k.bounds n).stood s at x end m in (Some w, e, c, i, r)
    bound_stood present n s at x end (inr (e, (i, r))) = (None, e, refl, i, r)

    bound_makes : (present n : Bool) (s : List ℕ) (at : ℕ) (o : Option W) (end : ℕ) → present ≡ is_some o → fits_if (fits n) o ≡ true → StandInTurn s at (numbers_of o) end → Makes h.table s (bounded present n) at (written h.value o) end
    bound_makes present n s at None end e c r = inr (e, (refl, r))
    bound_makes present n s at (Some w) end e c r = inl (e, (k.bounds n).makes s at w end c r)

    pub fitting : (w : WrittenLeaf W R) → headed_fits h w ≡ true → (fits_if h.is_bound w.low ≡ true) × (fits_if h.is_bound w.high ≡ true) × (h.is_rest w.rest ≡ true)
    fitting w f =
        let (a, b) = and_parts (fits_if h.is_bound w.low) (fits_if h.is_bound w.high && h.is_rest w.rest) f in
        let (c, d) = and_parts (fits_if h.is_bound w.high) (h.is_rest w.rest) b in
        (a, c, d)

    stood : (s : List ℕ) (at : ℕ) (m : MadeLeaf V X) (end : ℕ) → Makes h.table s (headed_plan h) at m end → (w : WrittenLeaf W R) × (headed_fits h w ≡ true) × (headed_made h w ≡ m) × StandAsLeaf s at (headed_numbers h w) end
    stood s at m end (b, p, (n, e, c, d), (x, z, y, (q, i))) =
        let (f, stands, j) = byte_made h.table s h.flags at n e k.shape c in
        let (mid, lo, hi) = bounds_made h.table s h.bound n e b p d in
        let (low, lp, lf, lv, lr) = bound_stood (has_bit n 0) (has_bit n 2) s e b.minimum mid lo in
        let (high, hp, hf, hv, hr) = bound_stood (has_bit n 1) (has_bit n 3) s mid b.maximum p hi in
        let (r, rf, rv, rr) = k.rest.stood s p x z y in
        let (o, lb, hb) = k.flag.back n low high f lp hp lf hf in
        let w : WrittenLeaf W R = record { low = low; high = high; rest = r } in (
          w,
          and_from (fits_if h.is_bound low) (fits_if h.is_bound high && h.is_rest r) lb (and_from (fits_if h.is_bound high) (h.is_rest r) hb rf),
          (λ t. record { bounds = record { minimum = lv t; maximum = hv t }; rest = rv t }) ∙ q,
          (
            stands ∙ ap (λ (z : ℕ). z ∷ drop 1 (drop at s)) o,
            subst (λ z. StandInTurn s z ((numbers_of low ++ numbers_of high) ++ h.rest_numbers r) end) (sym j)
                (row_join s (numbers_of low ++ numbers_of high) (h.rest_numbers r) e p end (row_join s (numbers_of low) (numbers_of high) e mid p lr hr) (subst (StandInTurn s p (h.rest_numbers r)) i rr)),
          ),
        )

    makes : (s : List ℕ) (at : ℕ) (w : WrittenLeaf W R) (end : ℕ) → headed_fits h w ≡ true → StandAsLeaf s at (headed_numbers h w) end → Makes h.table s (headed_plan h) at (headed_made h w) end
    makes s at w end f (d, row) =
        let (lb, hb, rf) = fitting w f in
        let n = h.flags_of w.low w.high in
        let (c, lp, hp, lf, hf) = k.flag.there w.low w.high lb hb in
        let (m, x, y) = row_parts s (numbers_of w.low ++ numbers_of w.high) (h.rest_numbers w.rest) (at + 1) end row in
        let (mid, i, j) = row_parts s (numbers_of w.low) (numbers_of w.high) (at + 1) m x in (
          (headed_made h w).bounds,
          m,
          (
            n,
            at + 1,
            byte_makes h.table s h.flags at n (at + 1) k.shape c d refl,
            (written h.value w.low, mid, bound_makes (has_bit n 0) (has_bit n 2) s (at + 1) w.low mid lp lf i, (written h.value w.high, m, bound_makes (has_bit n 1) (has_bit n 3) s mid w.high m hp hf j, (refl, refl))),
          ),
          (h.rest_value w.rest, end, k.rest.makes s m w.rest end rf y, (refl, refl)),
        )

    below : (w : WrittenLeaf W R) → headed_fits h w ≡ true → AreLeafNumbers (headed_numbers h w)
    below w f =
        let (lb, hb, rf) = fitting w f in
        let (c, lp, hp, lf, hf) = k.flag.there w.low w.high lb hb in
        let n = h.flags_of w.low w.high in
        both_below (numbers_of w.low ++ numbers_of w.high) (h.rest_numbers w.rest) (both_below (numbers_of w.low) (numbers_of w.high) (under (has_bit n 2) w.low lf) (under (has_bit n 3) w.high hf)) (k.rest.below w.rest rf)
      where
        under : (n : Bool) (o : Option W) → fits_if (fits n) o ≡ true → AreNumbers (numbers_of o)
        under n None c = tt
        under n (Some w) c = (k.bounds n).below w c

    none_some : {v : V} → None ≡ Some v → ⊥
    none_some e = let q : ◌≡◌ {A = ℕ} 0 1 = cc in omega (arith, q)

    same_bounds : (a b : Option W) → fits_if h.is_bound a ≡ true → fits_if h.is_bound b ≡ true → written h.value a ≡ written h.value b → a ≡ b
    same_bounds None None f g e = refl
    same_bounds None (Some w) f g e = absurd (none_some (e ∙ (k.valued w g).1))
    same_bounds (Some w) None f g e = absurd (none_some (sym e ∙ (k.valued w f).1))
    same_bounds (Some w) (Some v) f g e = ap Some (k.same_bound w v f g e)

    same : (w v : WrittenLeaf W R) → headed_fits h w ≡ true → headed_fits h v ≡ true → headed_made h w ≡ headed_made h v → w ≡ v
    same w v f g e =
        let (a, b, c) = fitting w f in
        let (p, q, r) = fitting v g in
        let low = same_bounds w.low v.low a p (ap (λ (m : MadeLeaf V X). m.bounds.minimum) e) in
        let high = same_bounds w.high v.high b q (ap (λ (m : MadeLeaf V X). m.bounds.maximum) e) in
        let rest = k.same_rest w.rest v.rest c r (ap (λ (m : MadeLeaf V X). m.rest) e) in
        λ i. record { low = low i; high = high i; rest = rest i }

    pub headed_laws : {L : Type 0} (is_window : Option V → Option V → Bool) (leaf : Bounds V → X → L) → LayoutLaws (headed_layout h is_window leaf)
    headed_laws is_window leaf = record {
      own = k.own;
      below = below;
      stood = stood;
      makes = makes;
      past = λ s at g. let q = ap (λ t. shape_at t s at) k.shape ∙ byte_past s at g in rw q refl;
      same = same;
    }
