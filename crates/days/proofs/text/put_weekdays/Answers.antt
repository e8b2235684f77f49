use Rattle.std.proofs.Common.{◌≡◌, ℕ, sym, subst, add-one, arith}
use Rattle.texts.specs.Cursors.{Put}
use Rattle.texts.specs.Laws.Writes.{put_none, put_then}
use Rattle.days.specs.Text.{weekdays_text}
use Rattle.days.proofs.Texts.{weekdays_short}
use Rattle.days.proofs.text.put_weekdays.Goals as goal

pub loop-k-init : goal.loop-k-init
loop-k-init c = put_none _

pub loop-k-preserved : goal.loop-k-preserved
loop-k-preserved c =
    subst (λ (k : ℕ). Put c.args.out.now (weekdays_text c.args.set k) c.put_weekday.new.out) (sym (add-one c.loop-k.k)) (put_then c.loop-k.invariant c.put_weekday.ensures)

pub returns : goal.returns
returns c =
    let e : c.loop-k.k ≡ 7 = omega arith in
    record {
      put = subst (λ (k : ℕ). Put c.args.out.now (weekdays_text c.args.set k) c.loop-k.out) e c.loop-k.invariant;
      short = weekdays_short c.args.set 7;
    }
