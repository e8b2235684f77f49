use Rattle.std.proofs.Common.{◌≡◌, cond, length, ap, ◌∙◌}
use Rattle.leaf.specs.Kind.{admits}
use Rattle.list.specs.Held.{held_of, places_of}
use Rattle.list.specs.Lists.{any}
use Rattle.list.specs.Runs.{after, reading, run}
use Rattle.list.specs.Runs.Call.{sheet}
use Rattle.list.specs.Sheets.{sheet_outcome}
use Rattle.foreign.specs.Shown.{byte_in, number_in}
use Rattle.foreign.proofs.asking.ask.Goals as goal
use Rattle.std.proofs.Common.{[], ◌∷◌}

pub returns : goal.returns
returns g c =
    let k = g.L.Leaf.kind in
    let bytes = c.args.sheet.now in
    let places = ap length c.open-list.ensures.table.1 in
    let empty = c.open-list.ensures.held in
    let told = c.sheet-answer.ensures.answer in
    let settled = (c.sheet-answer.ensures.sound c.open-list.ensures.sound).settled in
    let held : held_of c.sheet-answer.new.self ≡ run k (length c.args.table.now) (sheet bytes ∷ []) = c.sheet-answer.ensures.held ∙ (λ i. after k (places i) (empty i) (sheet bytes)) in
    let same : sheet_outcome k (places_of c.open-list.result) bytes (held_of c.open-list.result) ≡ sheet_outcome k (length c.args.table.now) bytes [] = λ i. sheet_outcome k (places i) bytes (empty i) in
    record {
      admitted = c.admits.ensures settled ∙ ap (λ h. any (λ x. admits k x c.args.value) (cond c.args.read (reading k h) h)) held;
      sheet = record {
        accepted = c.into.ensures.accepted ∙ (told.accepted ∙ ap (λ o. length o.taken) same);
        start = c.into.ensures.start ∙ (told.start ∙ ap (λ o. o.start) same);
        refusal = c.into.ensures.refusal ∙ (ap number_in told.fault ∙ ap (λ o. number_in o.stop) same);
        byte = c.into.ensures.byte ∙ (ap byte_in told.fault ∙ ap (λ o. byte_in o.stop) same);
      };
    }
