use Rattle.std.proofs.Common.{◌≡◌, ℕ, ◌/◌, ◌<◌, sym, ap, subst, inl, inr}
use Rattle.divisors.specs.Shared.{rest_of, shared_of}
use Rattle.divisors.specs.Lemmas.Primes.{shared_is, shared_pos, rest_pos, strip_none, strip_some}
use Rattle.divisors.proofs.whole.stripped.Goals as goal
use Rattle.divisors.proofs.whole.stripped.Goals.{else-shared-ne1-via-then-shared-ne1+else-b-shared-eq0, else-shared-ne1-via-else-shared-ne1}

-- the quotient that the code takes is the shared part
same : (a b r : ℕ) → r ≡ rest_of a b → a / r ≡ shared_of a b
unfolding shared_of
same a b r e = ap (λ (x : ℕ). a / x) e

pos : (a b r : ℕ) → 0 < a → r ≡ rest_of a b → 0 < a / r
pos a b r h e = subst (λ (x : ℕ). 0 < x) (sym (same a b r e)) (shared_pos a b h)

pub nonzero_div-shared : goal.nonzero_div-shared
nonzero_div-shared c = subst (λ (x : ℕ). 0 < x) (sym c.rest.ensures) (rest_pos c.args.a c.args.b c.requires)

pub nonzero_rem-b : goal.nonzero_rem-b
nonzero_rem-b c = pos c.args.a c.args.b c.rest.result c.requires c.rest.ensures

pub nonzero_div-result : goal.nonzero_div-result
nonzero_div-result c = pos c.args.a c.args.b c.rest.result c.requires c.rest.ensures

pub returns-then-b-shared-eq0 : goal.returns-then-b-shared-eq0
returns-then-b-shared-eq0 c =
    record {
      value =
          strip_some c.args.a c.args.b (c.args.a / c.rest.result) (same c.args.a c.args.b c.rest.result c.rest.ensures)
          c.if-shared-ne1.true c.if-b-shared-eq0.true;
      shared = shared_is c.args.a c.args.b c.requires;
    }

pub returns-else-shared-ne1 : goal.returns-else-shared-ne1
returns-else-shared-ne1 c =
    record {
      value =
          strip_none c.args.a c.args.b (c.args.a / c.rest.result) (same c.args.a c.args.b c.rest.result c.rest.ensures)
          (elim c.else-shared-ne1.branch [
            | else-shared-ne1-via-then-shared-ne1+else-b-shared-eq0 w ↦ inr w.if-b-shared-eq0.false
            | else-shared-ne1-via-else-shared-ne1 w ↦ inl w.if-shared-ne1.false
          ]);
      shared = shared_is c.args.a c.args.b c.requires;
    }
