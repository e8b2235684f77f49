use Rattle.std.proofs.Common.{ℕ, List, [], ◌∷◌, ◌++◌, length, codes, decimal, ap, ◌∙◌, subst, arith}
use Rattle.std.proofs.lemmas.List.{length-append}
use Rattle.texts.specs.Cursors.{Put}
use Rattle.texts.specs.Refusals.{place_text, refusal_text}
use Rattle.texts.specs.Laws.Writes.{put_then}
use Rattle.texts.proofs.refusals.FaultLine.put.Goals as goal

pub returns : goal.returns
unfolding refusal_text
returns c =
    let n = c.from.ensures ∙ c.number.ensures in
    let place = place_text c.args.self.now.byte in
    let all : ℕ → List ℕ = λ m. codes "refused " ++ (decimal m ++ (place ++ 10 ∷ [])) in
    let digits = c.decimal.ensures.short in
    let at = c.put_place.ensures.short in
    let long = length-append (codes "refused ") (decimal c.from.result ++ (place ++ 10 ∷ [])) in
    let rest = length-append (decimal c.from.result) (place ++ 10 ∷ []) in
    let last = length-append place (10 ∷ []) in
    let same = ap (λ (m : ℕ). length (all m)) n in
    record {
      put = subst (λ (m : ℕ). Put c.args.out.now (all m) c.byte.new.self) n (put_then c.bytes.ensures (put_then c.decimal.ensures.put (put_then c.put_place.ensures.put c.byte.ensures)));
      short = omega arith;
    }
