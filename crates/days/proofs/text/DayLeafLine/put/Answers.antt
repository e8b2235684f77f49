use Rattle.std.proofs.Common.{[], ◌∷◌, ◌++◌, arith}
use Rattle.std.proofs.lemmas.List.{length-append}
use Rattle.texts.specs.Laws.Writes.{put_then}
use Rattle.days.specs.Text.{bound_text, line_text, weekdays_text}
use Rattle.days.proofs.text.DayLeafLine.put.Goals as goal

pub returns : goal.returns
unfolding line_text
returns c =
    let a = c.args.self.now in
    let low = bound_text a.bounds.minimum in
    let high = bound_text a.bounds.maximum in
    let set = weekdays_text a.weekdays 7 in
    record {
      put =
          put_then c.put_bound.ensures.put
          (put_then c.byte.ensures (put_then c.put_bound-2.ensures.put (put_then c.byte-2.ensures (put_then c.put_weekdays.ensures.put c.byte-3.ensures))));
      short =
          omega (
            arith,
            length-append low (32 ∷ (high ++ (32 ∷ (set ++ 10 ∷ [])))),
            length-append high (32 ∷ (set ++ 10 ∷ [])),
            length-append set (10 ∷ []),
            c.put_bound.ensures.short,
            c.put_bound-2.ensures.short,
            c.put_weekdays.ensures.short,
          );
    }
