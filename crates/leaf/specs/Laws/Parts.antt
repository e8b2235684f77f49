-- Parts of a plan as they are written: what a part makes is what stands there as written, and what stands there is made.
use Rattle.std.specs.Prelude.{◌≡◌, ℕ, zero, suc, ◌+◌, ◌^◌, ◌<◌, Bool, true, ◌&&◌, List, [], ◌∷◌, ◌++◌, length, map, drop, ⊤, refl}
use Rattle.std.specs.List.{list_all}
use Rattle.std.proofs.Common.{sym, ap, subst, ◌∙◌}
use Rattle.std.proofs.lemmas.Bool.{and_from, and_parts}
use Rattle.leaf.specs.Fields.{number, Stands}
use Rattle.leaf.specs.Plans.{Table, Plan, done, ask, then, field, repeat, all_numbers, Makes}
use Rattle.leaf.specs.Layouts.{AreNumbers, StandInTurn}
use Rattle.leaf.specs.Laws.Rows.{both_below, row_join, row_parts}
use Rattle.leaf.specs.Laws.Fielded.{number_made, number_makes}

module _ {Role : Type 0} (t : Table Role) where
  pub record Part {W A : Type 0} (plan : Plan Role A) (numbers : W → List ℕ) (fits : W → Bool) (made : W → A) : Type 0 where
    pub stood : (s : List ℕ) (at : ℕ) (x : A) (end : ℕ) → Makes t s plan at x end → (w : W) × (fits w ≡ true) × (made w ≡ x) × StandInTurn s at (numbers w) end
    pub makes : (s : List ℕ) (at : ℕ) (w : W) (end : ℕ) → fits w ≡ true → StandInTurn s at (numbers w) end → Makes t s plan at (made w) end
    pub below : (w : W) → fits w ≡ true → AreNumbers (numbers w)

  -- nothing
  pub no_part : Part {W = ⊤} (done tt) (λ _. []) (λ _. true) (λ w. w)
  no_part = record { stood = λ s at x end (e, h). (x, refl, refl, h); makes = λ s at w end f h. (refl, h); below = λ w f. tt }

  -- a number
  pub number_part : (r : Role) → t.shape r ≡ number → ((n : ℕ) → t.fits r n ≡ true → n < 2 ^ 64) → Part (field r) (λ n. n ∷ []) (t.fits r) (λ n. n)
  number_part r h b = record {
    stood = λ s at x end m. let (f, w) = number_made t s r at x end h m in (x, f, refl, w);
    makes = λ s at n end f w. number_makes t s r at n end h f w;
    below = λ n f. (b n f, tt);
  }

  -- two parts, one after the other
  module _ {W V A B C : Type 0} {p : Plan Role A} {q : Plan Role B} {ns : W → List ℕ} {ms : V → List ℕ} {f : W → Bool} {g : V → Bool} {a : W → A} {b : V → B} where
    pub pair_part : (mk : A → B → C) → Part p ns f a → Part q ms g b →
        Part {W = W × V} (then p (λ x. then q (λ y. done (mk x y)))) (λ w. ns w.0 ++ ms w.1) (λ w. f w.0 && g w.1) (λ w. mk (a w.0) (b w.1))
    pair_part mk u v = record {
      stood = λ s at x end (y, mid, l, (z, e, r, (i, j))).
          let (w, c, m, h) = u.stood s at y mid l in
          let (o, d, n, k) = v.stood s mid z e r in
          ((w, o), and_from (f w) (g o) c d, (λ τ. mk (m τ) (n τ)) ∙ i, row_join s (ns w) (ms o) at mid end h (subst (StandInTurn s mid (ms o)) j k));
      makes = λ s at w end h r.
          let (c, d) = and_parts (f w.0) (g w.1) h in
          let (mid, l, k) = row_parts s (ns w.0) (ms w.1) at end r in
          (a w.0, mid, u.makes s at w.0 mid c l, (b w.1, end, v.makes s mid w.1 end d k, (refl, refl)));
      below = λ w h. let (c, d) = and_parts (f w.0) (g w.1) h in both_below (ns w.0) (ms w.1) (u.below w.0 c) (v.below w.1 d);
    }

  -- a count, and as many parts
  module _ {W A : Type 0} {p : Plan Role A} {ns : W → List ℕ} {f : W → Bool} {a : W → A} (u : Part p ns f a) where
    repeat_stood : (k : ℕ) (s : List ℕ) (at : ℕ) (xs : List A) (end : ℕ) → Makes t s (repeat p k) at xs end → (ws : List W) × (k ≡ length ws) × (list_all f ws ≡ true) × (map a ws ≡ xs) × StandInTurn s at (all_numbers ns ws) end
    repeat_stood zero s at xs end (e, h) = ([], refl, refl, e, h)
    repeat_stood (suc k) s at xs end (x, mid, l, (ys, e, r, (i, j))) =
        let (w, c, m, h) = u.stood s at x mid l in
        let (ws, n, d, o, g) = repeat_stood k s mid ys e r in
        (w ∷ ws, ap suc n, and_from (f w) (list_all f ws) c d, (λ τ. m τ ∷ o τ) ∙ i, row_join s (ns w) (all_numbers ns ws) at mid end h (subst (StandInTurn s mid (all_numbers ns ws)) j g))

    repeat_makes : (ws : List W) (s : List ℕ) (at end : ℕ) → list_all f ws ≡ true → StandInTurn s at (all_numbers ns ws) end → Makes t s (repeat p (length ws)) at (map a ws) end
    repeat_makes [] s at end h r = (refl, r)
    repeat_makes (w ∷ ws) s at end h r =
        let (c, d) = and_parts (f w) (list_all f ws) h in
        let (mid, l, k) = row_parts s (ns w) (all_numbers ns ws) at end r in
        (a w, mid, u.makes s at w mid c l, (map a ws, end, repeat_makes ws s mid end d k, (refl, refl)))

    repeat_below : (ws : List W) → list_all f ws ≡ true → AreNumbers (all_numbers ns ws)
    repeat_below [] h = tt
    repeat_below (w ∷ ws) h = let (c, d) = and_parts (f w) (list_all f ws) h in both_below (ns w) (all_numbers ns ws) (u.below w c) (repeat_below ws d)

    pub many_part : (r : Role) → t.shape r ≡ number → ((n : ℕ) → t.fits r n ≡ true → n < 2 ^ 64) →
        Part (ask r (λ _ n. repeat p n)) (λ ws. length ws ∷ all_numbers ns ws) (λ ws. list_all f ws && t.fits r (length ws)) (map a)
    many_part r h b = record {
      stood = λ s at xs end (n, size, w, m).
          let (ws, k, d, o, g) = repeat_stood n s (at + size) xs end m in (
            ws,
            and_from (list_all f ws) (t.fits r (length ws)) d (subst (λ z. t.fits r z ≡ true) k w.fits),
            o,
            (size, subst (λ z. Stands number (drop at s) z size) k (subst (λ z. Stands z (drop at s) n size) h w.stands), g),
          );
      makes = λ s at ws end e (size, w, g).
          let (c, d) = and_parts (list_all f ws) (t.fits r (length ws)) e in
          (length ws, size, record { stands = subst (λ z. Stands z (drop at s) (length ws) size) (sym h) w; fits = d }, repeat_makes ws s (at + size) end c g);
      below = λ ws e. let (c, d) = and_parts (list_all f ws) (t.fits r (length ws)) e in (b (length ws) d, repeat_below ws c);
    }
