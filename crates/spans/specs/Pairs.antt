-- The order of pairs is total and transitive where those of their parts are, and ties where both do.
use Rattle.std.specs.Prelude.{◌≡◌, Bool, true, false, ◌&&◌, refl}
use Rattle.std.proofs.lemmas.Bool.{true≢false, false≢true}
use Rattle.spans.specs.Closed.{pair_le}

pub pair_from : (r r' s : Bool) → r ≡ true → (r' ≡ true → s ≡ true) → pair_le r r' s ≡ true
pair_from false r' s h f = h
pair_from true false s h f = refl
pair_from true true s h f = f refl

pub pair_parts : (r r' s : Bool) → pair_le r r' s ≡ true → (r ≡ true) × (r' ≡ true → s ≡ true)
pair_parts false r' s h = absurd (false≢true h)
pair_parts true false s h = (refl, λ e. absurd (false≢true e))
pair_parts true true s h = (refl, λ _. h)

pub pair_total : (r r' s s' : Bool) → (r ≡ false → r' ≡ true) → (s ≡ false → s' ≡ true) → pair_le r r' s ≡ false → pair_le r' r s' ≡ true
pair_total false r' s s' f g h = pair_from r' false s' (f refl) (λ e. absurd (false≢true e))
pair_total true false s s' f g h = absurd (true≢false h)
pair_total true true s s' f g h = g h

-- two pairs that tie: the first parts tie, and the second
pub pair_tie : (r r' s s' : Bool) → (pair_le r r' s && pair_le r' r s') ≡ true → ((r && r') ≡ true) × ((s && s') ≡ true)
pair_tie false r' s s' h = absurd (false≢true h)
pair_tie true false true s' h = absurd (false≢true h)
pair_tie true false false s' h = absurd (false≢true h)
pair_tie true true s s' h = (refl, h)
