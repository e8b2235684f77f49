use Rattle.std.proofs.Common.{◌≡◌, ℕ, [], ◌∷◌, length, ap, ◌∙◌, subst, rules}
use Rattle.list.specs.Held.{Tells, held_of}
use Rattle.list.specs.Runs.{Promised}
use Rattle.list.specs.Runs.Call.{sheet}
use Rattle.list.specs.Sheets.{sheet_outcome}
use Rattle.sheets.proofs.output.take_sheet.Goals as goal

pub returns : goal.returns
returns g c =
    let k = g.L.Leaf.kind in
    let b = c.args.sheet.now in
    let cs = sheet b ∷ [] in
    let opened = c.open-list.ensures in
    let n : length c.open-list.result.table.now ≡ length c.args.table.now = ap length opened.table.1 in
    let answer = c.sheet-answer.ensures in
    let run = answer.run [] opened.run in
    let promised = subst (λ (i : ℕ). Promised k i cs (held_of c.count.new.self)) (answer.table.places ∙ n) (c.count.ensures.promises cs run) in
    record {
      within = search rules;
      answer = subst (λ h. Tells c.sheet-answer.result (sheet_outcome k (length c.args.table.now) b h)) opened.held (subst (λ (i : ℕ). Tells c.sheet-answer.result (sheet_outcome k i b (held_of c.open-list.result))) n answer.answer);
      promised = subst (Promised k (length c.args.table.now) cs) (search rules) promised;
    }
