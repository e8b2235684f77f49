use Rattle.std.proofs.Common.{◌≡◌, ℕ, ◌/◌, ◌<◌, sym, ap, ◌∙◌, subst, arith}
use Rattle.divisors.specs.Shared.{rest_of}
use Rattle.divisors.specs.Whole.{gcd_of}
use Rattle.divisors.specs.Lemmas.Gcds.{gcd_pos}
use Rattle.divisors.specs.Lemmas.Primes.{rest_end, rest_more, rest_less as falls}
use Rattle.divisors.proofs.whole.+rest.Goals as goal

-- the gcd in hand is not 1
apart : (a b g : ℕ) → g ≡ gcd_of a b → (g ≡ 1 → ⊥) → gcd_of a b ≡ 1 → ⊥
apart a b g e ne k = ne (e ∙ k)

pub nonzero_div-a : goal.nonzero_div-a
nonzero_div-a t c = subst (λ (x : ℕ). 0 < x) (sym c.gcd-g.ensures.value) (gcd_pos c.args.a c.args.b c.requires)

pub rest-requires : goal.rest-requires
rest-requires t c =
    let f = falls c.args.a c.args.b c.requires (apart _ _ _ c.gcd-g.ensures.value c.if-g-eq1.false) in
    let e : c.args.a / c.gcd-g.result ≡ c.args.a / gcd_of c.args.a c.args.b = ap (λ (x : ℕ). c.args.a / x) c.gcd-g.ensures.value in
    (omega (arith, f.1), omega (arith, f.0))

pub returns-then-g-eq1 : goal.returns-then-g-eq1
returns-then-g-eq1 t c = rest_end c.args.a c.args.b c.requires (sym c.gcd-g.ensures.value ∙ c.if-g-eq1.true)

pub returns-else-g-eq1 : goal.returns-else-g-eq1
returns-else-g-eq1 t c =
    c.rest.ensures ∙ ap (λ (x : ℕ). rest_of (c.args.a / x) c.args.b) c.gcd-g.ensures.value ∙
    rest_more c.args.a c.args.b c.requires (apart _ _ _ c.gcd-g.ensures.value c.if-g-eq1.false)
