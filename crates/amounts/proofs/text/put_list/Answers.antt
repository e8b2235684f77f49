use Rattle.std.proofs.Common.{◌≡◌, ◌-◌, ◌<◌, List, length, get_or, take, drop, ap, subst, arith, length-drop, ltb-false, ltb-true}
use Rattle.std.proofs.lemmas.List.{length-append, take_rest}
use Rattle.divisors.specs.declared.fraction.Fraction.{Fraction}
use Rattle.divisors.specs.Fractions.{none}
use Rattle.texts.specs.Cursors.{Put}
use Rattle.texts.specs.Laws.Writes.{put_then}
use Rattle.amounts.specs.Text.{fraction_text, more_text}
use Rattle.amounts.proofs.Writes.{list_none, list_step}
use Rattle.amounts.proofs.text.put_list.Goals as goal

pub returns-in_default : goal.returns-in_default
returns-in_default c =
    let e = list_none c.args.fs.now (omega (arith, ltb-true)) in
    record { put = rw e c.byte.ensures; short = λ _. omega (arith, ap length e) }

pub returns : goal.returns
returns c =
    let fs = c.args.fs.now in
    let some : 0 < length fs = omega (arith, ltb-false) in
    let rest : take (length fs - 1) (drop 1 fs) ≡ drop 1 fs = take_rest fs 1 in
    let size = length-drop 1 fs in
    record {
      put =
          rw (list_step fs some)
          (put_then c.put_fraction.ensures.put (subst (λ (gs : List Fraction). Put c.put_fraction.new.out (more_text gs) c.put_more.new.out) rest c.put_more.ensures.put));
      short =
          λ few.
          let f = c.put_fraction.ensures.short in
          let m = c.put_more.ensures.short in
          omega (
            arith,
            ap length (list_step fs some),
            length-append (fraction_text (get_or fs 0 none)) (more_text (drop 1 fs)),
            ap length rest,
            ap (λ (gs : List Fraction). length (more_text gs)) rest,
          );
    }
