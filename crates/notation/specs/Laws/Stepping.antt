-- A `try_fold` over a slice, whose step may stop.
use Rattle.std.proofs.Common.{◌≡◌, ℕ, List, [], ◌∷◌, Some, None, Option, Bor, Iter, sym, ap, ◌∙◌, subst}
use Rattle.std.proofs.lemmas.Fn.{fronts}
use Rattle.std.specs.Fn.{Called}
use Rattle.std.specs.Iterator.{AlwaysYields, YieldsThen}
use Rattle.std.specs.List.{FoldsTo}
use Rattle.std.specs.Option.{MatchOption}
use denote.Param.Members.{Mut}
use Rattle.notation.specs.Text.{stepped}

module _ {F : Type 0} (g : Mut F (ℕ × (Bor ℕ × Unit {0})) (Option ℕ)) (step : ℕ → ℕ → Option ℕ) (f : F)
    (k : (n : ℕ) (x : Bor ℕ) (r : Option ℕ) (q : F) → Called g f (n, (x, tt)) r q → (q ≡ f) × (r ≡ step n x.now)) where
  -- a call that goes on
  abbrev pub Turn : F × ℕ → Bor ℕ → F × ℕ → Type 0
  Turn p x q = (v : Option ℕ) × Called g p.0 (p.1, (x, tt)) v q.0 × (v ≡ Some q.1)

  -- all went on, or one stopped
  abbrev pub Ends : Type 0 → Option (Bor ℕ) → F → ℕ → Option ℕ → Type 0
  Ends E o q a r = MatchOption o (r ≡ Some a) (λ x. (v : Option ℕ) × (h : F) × E × Called g q (a, (x, tt)) v h × (v ≡ None) × (r ≡ None))

  pub stepped_by :
      (E : Type 0) (s u : Iter ℕ) (all : List ℕ) (n : ℕ) (r : Option ℕ) → AlwaysYields fronts (λ y. y.now) s all →
      (xs : List (Bor ℕ)) (o : Option (Bor ℕ)) (q : F) (a : ℕ) → YieldsThen fronts s xs o u → FoldsTo {P = F × ℕ} Turn (f, n) xs (q, a) → Ends E o q a r → r ≡ stepped step n all
  stepped_by E s u [] n r y [] None q a t e m = m ∙ ap (λ (p : F × ℕ). Some p.1) (sym e)
  stepped_by E s u [] n r y [] (Some x) q a t e m = absurd (y x u (subst (λ (w : Iter ℕ). fronts w (Some x) u) (sym t.1) t.2))
  stepped_by E s u (b ∷ bs) n r y [] None q a t e m = absurd (y.0 u (subst (λ (w : Iter ℕ). fronts w None u) (sym t.1) t.2))
  stepped_by E s u (b ∷ bs) n r y [] (Some x) q a t e m =
      let here = y.1 x u (subst (λ (w : Iter ℕ). fronts w (Some x) u) (sym t.1) t.2) in
      let call = k n x m.0 m.1 (subst (λ (p : F × ℕ). Called g p.0 (p.1, (x, tt)) m.0 m.1) (sym e) m.3) in
      let stops : None ≡ step n b = sym m.4 ∙ (call.1 ∙ ap (step n) here.0) in
      m.5 ∙ ap (λ (j : Option ℕ). elim j [ Some i ↦ stepped step i bs | None ↦ None ]) stops
  stepped_by E s u [] n r y (x ∷ xs) o q a t e m = absurd (y x t.1.0 t.1.1)
  stepped_by E s u (b ∷ bs) n r y (x ∷ xs) o q a t e m =
      let here = y.1 x t.1.0 t.1.1 in
      let p = e.0 in
      let call = k n x e.1.0 p.0 e.1.1 in
      let on : Some p.1 ≡ step n b = sym e.1.2 ∙ (call.1 ∙ ap (step n) here.0) in
      stepped_by E t.1.0 u bs p.1 r here.1 xs o q a (t.0, t.1.2, t.2) (subst (λ (i : F). FoldsTo {P = F × ℕ} Turn (i, p.1) xs (q, a)) call.0 e.2) m
      ∙ ap (λ (j : Option ℕ). elim j [ Some i ↦ stepped step i bs | None ↦ None ]) on
