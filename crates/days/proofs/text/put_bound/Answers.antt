use Rattle.std.proofs.Common.{List, ℕ, sym, ap, ◌∙◌, subst}
use Rattle.texts.specs.Cursors.{Put}
use Rattle.days.specs.Text.{bound_text}
use Rattle.days.proofs.Texts.{bound_short, date_text_lem}
use Rattle.days.proofs.text.put_bound.Goals as goal

pub returns-in-Some-date_of : goal.returns-in-Some-date_of
returns-in-Some-date_of c =
    let text = ap bound_text c.in-Some.is ∙ date_text_lem c.in-Some-date_of.date c.in-Some.n c.in-Some-date_of.ensures.value in
    record {
      put = subst (λ (t : List ℕ). Put c.args.out.now t c.put_date.new.out) (sym text) c.put_date.ensures;
      short = bound_short c.args.day;
    }
