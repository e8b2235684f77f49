use Rattle.std.proofs.Common.{◌≤◌, List, [], ◌∷◌, ◌++◌, length, subst, arith}
use Rattle.std.proofs.lemmas.List.{length-append}
use Rattle.divisors.specs.declared.fraction.Fraction.{Fraction}
use Rattle.texts.specs.Cursors.{Put}
use Rattle.texts.specs.Laws.Writes.{put_then}
use Rattle.amounts.specs.Leaves.{barred, required}
use Rattle.amounts.specs.Text.{bound_text, line_text, list_text}
use Rattle.amounts.proofs.text.AmountLeafLine.put.Goals as goal

pub returns : goal.returns
unfolding line_text
returns c =
    let a = c.args.self.now in
    let low = bound_text a.bounds.minimum in
    let high = bound_text a.bounds.maximum in
    let window = low ++ (32 ∷ (high ++ 32 ∷ [])) in
    let rs = list_text (required a) in
    let bs = list_text (barred a) in
    let x = c.fractions.ensures.list in
    let y = c.fractions-2.ensures.list in
    let put_rs = subst (λ (fs : List Fraction). Put c.byte-2.new.self (list_text fs) c.put_list.new.out) x c.put_list.ensures.put in
    let put_bs = subst (λ (fs : List Fraction). Put c.byte-3.new.self (list_text fs) c.put_list-2.new.out) y c.put_list-2.ensures.put in
    let short_rs = subst (λ (fs : List Fraction). length (list_text fs) ≤ 252) x (c.put_list.ensures.short c.fractions.ensures.few) in
    let short_bs = subst (λ (fs : List Fraction). length (list_text fs) ≤ 252) y (c.put_list-2.ensures.short c.fractions-2.ensures.few) in
    record {
      put =
          put_then (put_then c.put_bound.ensures.put (put_then c.byte.ensures (put_then c.put_bound-2.ensures.put c.byte-2.ensures)))
          (put_then put_rs (put_then c.byte-3.ensures (put_then put_bs c.byte-4.ensures)));
      short =
          omega (
            arith,
            length-append window (rs ++ (32 ∷ (bs ++ 10 ∷ []))),
            length-append low (32 ∷ (high ++ 32 ∷ [])),
            length-append high (32 ∷ []),
            length-append rs (32 ∷ (bs ++ 10 ∷ [])),
            length-append bs (10 ∷ []),
            c.put_bound.ensures.short,
            c.put_bound-2.ensures.short,
            short_rs,
            short_bs,
          );
    }
