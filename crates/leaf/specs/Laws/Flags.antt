-- Flags on a sheet are those of the bounds behind them.
use Rattle.std.specs.Prelude.{◌≡◌, ℕ, Bool, true, false, not, ◌&&◌, Some, None, Option, is_some, refl}
use Rattle.std.proofs.Common.{sym, ap, ◌∙◌, arith}
use Rattle.std.proofs.lemmas.Bool.{and_from, and_parts, true≢false}
use Rattle.leaf.specs.Numbers.{are_flags, flags_made, has_bit}
use Rattle.leaf.specs.Headed.{Headed, has_sign, signed_flags, unsigned_flags}
use Rattle.leaf.specs.Plans.{fits_if}
use Rattle.leaf.specs.Laws.Headed.{FlagLaws}

record Bits (a b c d : Bool) : Type 0 where
  low : has_bit (flags_made a b c d) 0 ≡ a
  high : has_bit (flags_made a b c d) 1 ≡ b
  low_sign : has_bit (flags_made a b c d) 2 ≡ c
  high_sign : has_bit (flags_made a b c d) 3 ≡ d

bits : (a b c d : Bool) → Bits a b c d
bits a b c d = record { low = grind arith; high = grind arith; low_sign = grind arith; high_sign = grind arith }

unsigned_known : (a b : Bool) → are_flags false (flags_made a b false false) ≡ true
unsigned_known a b = grind arith

signed_known : (a b c d : Bool) → (c ≡ true → a ≡ true) → (d ≡ true → b ≡ true) → are_flags true (flags_made a b c d) ≡ true
signed_known a b c d h g = grind arith

unsigned_made : (f : ℕ) → are_flags false f ≡ true → f ≡ flags_made (has_bit f 0) (has_bit f 1) false false
unsigned_made f h = grind arith

signed_made : (f : ℕ) → are_flags true f ≡ true → f ≡ flags_made (has_bit f 0) (has_bit f 1) (has_bit f 0 && has_bit f 2) (has_bit f 1 && has_bit f 3)
signed_made f h = grind arith

-- whether two say the same of a sign
abbrev pub agrees : Bool → Bool → Bool
agrees true b = b
agrees false b = not b

pub agrees_self : (b : Bool) → agrees b b ≡ true
agrees_self true = refl
agrees_self false = refl

pub agrees_is : (a b : Bool) → agrees a b ≡ true → a ≡ b
agrees_is true true h = refl
agrees_is true false h = absurd (true≢false (sym h))
agrees_is false true h = absurd (true≢false (sym h))
agrees_is false false h = refl

module _ {Role V W X R : Type 0} (h : Headed Role V W X R) where
  pub unsigned : ((f : ℕ) → h.table.fits h.flags f ≡ are_flags false f) → ((low high : Option W) → h.flags_of low high ≡ unsigned_flags low high) → FlagLaws h (λ n. h.is_bound)
  unsigned fits made = record {
    there = λ low high f g. there low high f g (h.flags_of low high) (made low high);
    back = λ n low high k p q f g. (unsigned_made n (sym (fits n) ∙ k) ∙ ((λ i. flags_made (p i) (q i) false false) ∙ sym (made low high)), f, g);
  }
    where
      there : (low high : Option W) → fits_if h.is_bound low ≡ true → fits_if h.is_bound high ≡ true → (n : ℕ) → n ≡ unsigned_flags low high →
          (h.table.fits h.flags n ≡ true) × (has_bit n 0 ≡ is_some low) × (has_bit n 1 ≡ is_some high) × (fits_if h.is_bound low ≡ true) × (fits_if h.is_bound high ≡ true)
      there low high f g n e =
          let k = bits (is_some low) (is_some high) false false in
          (fits n ∙ (ap (are_flags false) e ∙ unsigned_known (is_some low) (is_some high)), ap (λ z. has_bit z 0) e ∙ k.low, ap (λ z. has_bit z 1) e ∙ k.high, f, g)

  module _ (sign : W → Bool) where
    abbrev pub is_signed : Bool → W → Bool
    is_signed n w = h.is_bound w && agrees n (sign w)

    there_is : (o : Option W) → has_sign sign o ≡ true → is_some o ≡ true
    there_is None e = e
    there_is (Some w) e = refl

    under : (o : Option W) (n : Bool) → n ≡ has_sign sign o → fits_if h.is_bound o ≡ true → fits_if (is_signed n) o ≡ true
    under None n e f = refl
    under (Some w) n e f = and_from (h.is_bound w) (agrees n (sign w)) f (ap (λ (c : Bool). agrees c (sign w)) e ∙ agrees_self (sign w))

    over : (o : Option W) (present n : Bool) → present ≡ is_some o → fits_if (is_signed n) o ≡ true → (fits_if h.is_bound o ≡ true) × ((present && n) ≡ has_sign sign o)
    over None present n e f = (refl, ap (λ (c : Bool). c && n) e)
    over (Some w) present n e f = let (c, d) = and_parts (h.is_bound w) (agrees n (sign w)) f in (c, ap (λ (c : Bool). c && n) e ∙ agrees_is n (sign w) d)

    pub signed : ((f : ℕ) → h.table.fits h.flags f ≡ are_flags true f) → ((low high : Option W) → h.flags_of low high ≡ signed_flags sign low high) → FlagLaws h is_signed
    signed fits made = record {
      there = λ low high f g. there low high f g (h.flags_of low high) (made low high);
      back = λ n low high k p q f g.
          let (c, d) = over low (has_bit n 0) (has_bit n 2) p f in
          let (e, i) = over high (has_bit n 1) (has_bit n 3) q g in
          (signed_made n (sym (fits n) ∙ k) ∙ ((λ j. flags_made (p j) (q j) (d j) (i j)) ∙ sym (made low high)), c, e);
    }
      where
        there : (low high : Option W) → fits_if h.is_bound low ≡ true → fits_if h.is_bound high ≡ true → (n : ℕ) → n ≡ signed_flags sign low high →
            (h.table.fits h.flags n ≡ true) × (has_bit n 0 ≡ is_some low) × (has_bit n 1 ≡ is_some high) × (fits_if (is_signed (has_bit n 2)) low ≡ true) × (fits_if (is_signed (has_bit n 3)) high ≡ true)
        there low high f g n e =
            let k = bits (is_some low) (is_some high) (has_sign sign low) (has_sign sign high) in (
              fits n ∙ (ap (are_flags true) e ∙ signed_known (is_some low) (is_some high) (has_sign sign low) (has_sign sign high) (there_is low) (there_is high)),
              ap (λ z. has_bit z 0) e ∙ k.low,
              ap (λ z. has_bit z 1) e ∙ k.high,
              under low (has_bit n 2) (ap (λ z. has_bit z 2) e ∙ k.low_sign) f,
              under high (has_bit n 3) (ap (λ z. has_bit z 3) e ∙ k.high_sign) g,
            )
