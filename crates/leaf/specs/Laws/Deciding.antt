-- Tests in their order: the answer, and what it says.
use Rattle.std.specs.Prelude.{◌≡◌, ℕ, Bool, true, false, cond, ◌⊎◌, List, [], ◌∷◌, ◌++◌, Some, None, Ok, Err, Option, Result, is_some, refl}
use Rattle.std.proofs.Common.{sym, ap, subst, ◌∙◌, arith, inl, inr, ⊎_elim}
use Rattle.std.proofs.lemmas.Bool.{cond-true, cond-false, cases_Bool, true≢false, false≢true}
use Rattle.faults.specs.Faults.{Refused, then, unplaced}
use Rattle.leaf.specs.Kind.{is_window_of}
use Rattle.leaf.specs.Tests.{Test, decided, Decided, is_valued, window_tests, WindowsJudged}
use Rattle.leaf.specs.Windows.{bound, valued, window_of, written}

module _ {A : Type 0} where
  ok_err : {x : A} {r : Refused} → ◌≡◌ {A = Result A Refused} (Ok x) (Err r) → ⊥
  ok_err e = let q : ◌≡◌ {A = ℕ} 0 1 = cc in omega (arith, q)

  number_is : {n m : ℕ} → ◌≡◌ {A = Result A Refused} (Err (unplaced n)) (Err (unplaced m)) → n ≡ m
  number_is {n} {m} e = let q : ◌≡◌ {A = Refused} (unplaced n) (unplaced m) = cc in ap (λ (r : Refused). r.number) q

  decides_on : (t : Test) (ts : List Test) (x : A) → Decided ts x (decided ts x) → (t.holds ≡ true) ⊎ (t.holds ≡ false) → Decided (t ∷ ts) x (decided (t ∷ ts) x)
  decides_on t ts x d (inl h) =
      let e : decided (t ∷ ts) x ≡ decided ts x = cond-true t.holds (decided ts x) (Err (unplaced t.number)) h in
      record {
        one = ⊎_elim (λ o. inl (e ∙ o)) (λ (n, o). inr (n, e ∙ o)) d.one;
        made = ((λ o. (h, d.made.0 (sym e ∙ o))), (λ a. e ∙ d.made.1 a.1));
        refused = λ n. (
          (λ o. inr (h, (d.refused n).0 (sym e ∙ o))),
          (λ f. ⊎_elim (λ (z, w). absurd (true≢false (sym h ∙ z))) (λ (z, w). e ∙ (d.refused n).1 w) f),
        );
      }
  decides_on t ts x d (inr h) =
      let e : decided (t ∷ ts) x ≡ Err (unplaced t.number) = cond-false t.holds (decided ts x) (Err (unplaced t.number)) h in
      record {
        one = inr (t.number, e);
        made = ((λ o. absurd (ok_err (sym o ∙ e))), (λ a. absurd (true≢false (sym a.0 ∙ h))));
        refused = λ n. (
          (λ o. inl (h, number_is (sym o ∙ e))),
          (λ f. ⊎_elim (λ (z, w). e ∙ ap (λ (m : ℕ). Err (unplaced m)) (sym w)) (λ (z, w). absurd (false≢true (sym h ∙ z))) f),
        );
      }

  pub decides : (ts : List Test) (x : A) → Decided ts x (decided ts x)
  decides [] x = record {
    one = inl refl;
    made = ((λ e. tt), (λ h. refl));
    refused = λ n. ((λ e. absurd (ok_err e)), (λ h. absurd h));
  }
  decides (t ∷ ts) x = decides_on t ts x (decides ts x) (cases_Bool t.holds)

-- one maker after another: its tests come behind
pub then_decided : {A B : Type 0} (ts us : List Test) (x : A) (f : A → Result B Refused) (y : B) → f x ≡ decided us y → then (decided ts x) f ≡ decided (ts ++ us) y
then_decided [] us x f y e = e
then_decided (t ∷ ts) us x f y e =
    ⊎_elim
    (λ h. ap (λ r. then r f) (cond-true t.holds (decided ts x) (Err (unplaced t.number)) h) ∙ (then_decided ts us x f y e ∙ sym (cond-true t.holds (decided (ts ++ us) y) (Err (unplaced t.number)) h)))
    (λ h. ap (λ r. then r f) (cond-false t.holds (decided ts x) (Err (unplaced t.number)) h) ∙ sym (cond-false t.holds (decided (ts ++ us) y) (Err (unplaced t.number)) h))
    (cases_Bool t.holds)

-- a window as written
module _ {W V : Type 0} (value : W → Option V) (le : V → V → Bool) where
  valued_decided : (o : Option V) → valued o ≡ decided (record { holds = is_some o; number = 7 } ∷ []) o
  valued_decided None = refl
  valued_decided (Some v) = refl

  bound_decided : (o : Option W) → bound value o ≡ decided (record { holds = is_valued value o; number = 7 } ∷ []) (written value o)
  bound_decided None = refl
  bound_decided (Some w) = valued_decided (value w)

  pub window_decided : (low high : Option W) → window_of value le low high ≡ decided (window_tests value le low high) (record { minimum = written value low; maximum = written value high })
  window_decided low high =
      ap (λ (r : Result (Option V) Refused). then r (λ l. then (bound value high) (λ h. cond (is_window_of le l h) (Ok (record { minimum = l; maximum = h })) (Err (unplaced 8))))) (bound_decided low)
      ∙ then_decided (record { holds = is_valued value low; number = 7 } ∷ [])
      (record { holds = is_valued value high; number = 7 } ∷ record { holds = is_window_of le (written value low) (written value high); number = 8 } ∷ []) (written value low) _
      (record { minimum = written value low; maximum = written value high })
      (ap (λ (r : Result (Option V) Refused). then r (λ h. cond (is_window_of le (written value low) h) (Ok (record { minimum = written value low; maximum = h })) (Err (unplaced 8)))) (bound_decided high)
      ∙ then_decided (record { holds = is_valued value high; number = 7 } ∷ []) (record { holds = is_window_of le (written value low) (written value high); number = 8 } ∷ []) (written value high) _ (record { minimum = written value low; maximum = written value high }) refl)

pub windows_judged : {W V : Type 0} (value : W → Option V) (le : V → V → Bool) → WindowsJudged value le
unfolding WindowsJudged
windows_judged value le low high =
    subst (Decided (window_tests value le low high) (record { minimum = written value low; maximum = written value high })) (sym (window_decided value le low high))
    (decides (window_tests value le low high) (record { minimum = written value low; maximum = written value high }))
