use Rattle.std.proofs.Common.{◌≡◌, ℕ, ℤ, w64, to_z, of_z, [], ◌∷◌, length, ap, sym, ◌∙◌, subst}
use Rattle.std.proofs.lemmas.Int.{to_z-of_z}
use Rattle.leaf.specs.Kind.{admits}
use Rattle.list.specs.Held.{Leads, held_of, places_of}
use Rattle.list.specs.Lists.{any}
use Rattle.list.specs.Runs.{lines, run}
use Rattle.list.specs.Runs.Call.{sheet}
use Rattle.list.specs.Sheets.{sheet_outcome}
use Rattle.amounts.specs.Amounts.{amounts}
use Rattle.crate_answers.proofs.Whole.{whole_told}
use Rattle.crate_answers.proofs.admitting.ask.Goals as goal

pub returns : goal.returns
returns c =
    let bytes = c.args.sheet.now in
    let v = c.args.value in
    let opened = c.open-list.ensures in
    let taken = c.sheet-answer.ensures in
    let asked = c.admits-by_leaf.ensures in
    let read = c.count.ensures in
    let open_places : places_of c.open-list.result ≡ 128 = ap length opened.table.1 in
    let places : places_of c.sheet-answer.new.self ≡ 128 = taken.table.places ∙ open_places in
    let led = taken.run [] opened.run in
    let held : held_of c.sheet-answer.new.self ≡ run amounts 128 (sheet bytes ∷ []) = led.held ∙ ap (λ (i : ℕ). run amounts i (sheet bytes ∷ [])) places in
    let led_on = read.run (sheet bytes ∷ []) (subst (Leads amounts (sheet bytes ∷ [])) (sym asked.same) led) in
    let read_places : places_of c.count.new.self ≡ 128 = read.table.places ∙ ap places_of asked.same ∙ places in
    let shown : held_of c.count.new.self ≡ lines amounts 128 (sheet bytes ∷ []) = led_on.held ∙ ap (λ (i : ℕ). lines amounts i (sheet bytes ∷ [])) read_places in
    let told : sheet_outcome amounts (places_of c.open-list.result) bytes (held_of c.open-list.result) ≡ sheet_outcome amounts 128 bytes [] =
    ap (λ h. sheet_outcome amounts (places_of c.open-list.result) bytes h) opened.held ∙ ap (λ (i : ℕ). sheet_outcome amounts i bytes []) open_places in
    let same : to_z w64 (of_z w64 v) ≡ v = to_z-of_z w64 v c.ranges.value in
    record {
      whole = whole_told c.sheet-answer.result.fault _ c.is_none.result c.is_none.ensures (taken.answer.fault ∙ ap (λ o. o.stop) told);
      by_leaf = asked.answer ∙ ap (λ (u : ℤ). any (λ x. admits amounts x u) (held_of c.sheet-answer.new.self)) same ∙ ap (any (λ x. admits amounts x v)) held;
      by_line = c.admits.ensures.answer ∙ ap (λ (u : ℤ). any (λ x. admits amounts x u) (held_of c.count.new.self)) same ∙ ap (any (λ x. admits amounts x v)) shown;
    }
