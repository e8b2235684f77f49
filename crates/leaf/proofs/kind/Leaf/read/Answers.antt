use Rattle.std.proofs.Common.{◌≡◌, ℕ, Ok, Err, Result, ap, ◌∙◌, sym}
use Rattle.std.specs.Prelude.{⊤}
use Rattle.std.proofs.lemmas.Result.{err_from_is_err_and}
use Rattle.faults.specs.declared.fault.Fault.{Fault}
use Rattle.leaf.specs.Reading.{at_of, ended}
use Rattle.leaf.specs.Laws.Judging.{answers_stand, leaf_grammar, read_means}
use Rattle.leaf.specs.Laws.Slices.{bytes_held}
use Rattle.leaf.proofs.Fills.{fills_from, fills_well}
use Rattle.leaf.proofs.kind.Leaf.read.Goals as goal

pub returns-in_err-read_fields-clause-reads : goal.returns-in_err-read_fields-clause-reads
returns-in_err-read_fields-clause-reads g c =
    let (f, q, e) = err_from_is_err_and c.from_residual.result c.from_residual.ensures.1 in
    let same : ended c.read_fields.result (at_of c.read_fields.new.reader) ≡ c.from_residual.result =
    ap (λ (r : Result ⊤ Fault). ended r (at_of c.read_fields.new.reader)) c.in_err-read_fields.was ∙ (ap (λ (x : Fault). ended {A = ⊤} (Err x) 0) (sym e) ∙ sym q) in
    fills_from g.Self.Leaf.kind g.met.Self.Leaf.lawfully c.args.sheet.now _ c.args.start _ c.args.place.now c.read_fields.new.place _ _ c.new-reader.ensures.sheet c.new-reader.ensures.at same c.read_fields.ensures.1

pub returns-in_err-read_fields-clause-judged : goal.returns-in_err-read_fields-clause-judged
returns-in_err-read_fields-clause-judged g c = answers_stand g.Self.Leaf.kind g.met.Self.Leaf.lawfully c.args.sheet.now c.args.start (bytes_held c.args.sheet.now c.type_inv.sheet)

pub returns-in_err-read_fields-clause-grammar : goal.returns-in_err-read_fields-clause-grammar
returns-in_err-read_fields-clause-grammar g c = leaf_grammar g.Self.Leaf.kind g.met.Self.Leaf.lawfully

pub returns-clause-reads : goal.returns-clause-reads
returns-clause-reads g c =
    let same : ended c.read_fields.result (at_of c.read_fields.new.reader) ≡ Ok c.at.result =
    ap (λ (r : Result ⊤ Fault). ended r (at_of c.read_fields.new.reader)) c.in_ok-read_fields.was ∙ ap (λ (n : ℕ). Ok n) (sym c.at.ensures) in
    fills_from g.Self.Leaf.kind g.met.Self.Leaf.lawfully c.args.sheet.now _ c.args.start _ c.args.place.now c.read_fields.new.place _ _ c.new-reader.ensures.sheet c.new-reader.ensures.at same c.read_fields.ensures.1

pub returns-clause-judged : goal.returns-clause-judged
returns-clause-judged g c = answers_stand g.Self.Leaf.kind g.met.Self.Leaf.lawfully c.args.sheet.now c.args.start (bytes_held c.args.sheet.now c.type_inv.sheet)

pub returns-clause-grammar : goal.returns-clause-grammar
returns-clause-grammar g c = leaf_grammar g.Self.Leaf.kind g.met.Self.Leaf.lawfully

pub returns-in_err-read_fields-clause-means : goal.returns-in_err-read_fields-clause-means
returns-in_err-read_fields-clause-means g c = read_means g.Self.Leaf.kind g.met.Self.Leaf.lawfully

pub returns-clause-means : goal.returns-clause-means
returns-clause-means g c = read_means g.Self.Leaf.kind g.met.Self.Leaf.lawfully

pub returns-in_err-read_fields-clause-refusals : goal.returns-in_err-read_fields-clause-refusals
returns-in_err-read_fields-clause-refusals g c = g.met.Self.Leaf.lawfully.refusals c.args.sheet.now

pub returns-clause-refusals : goal.returns-clause-refusals
returns-clause-refusals g c = g.met.Self.Leaf.lawfully.refusals c.args.sheet.now

pub returns-clause-within : goal.returns-clause-within
returns-clause-within g c = let w = fills_well g.Self.Leaf.kind g.met.Self.Leaf.lawfully c.args.sheet.now c.args.start c.args.place.now c.read_fields.new.place c.at.result (returns-clause-reads g c) in (w.1, w.2)

pub returns-clause-lawful : goal.returns-clause-lawful
returns-clause-lawful g c = (fills_well g.Self.Leaf.kind g.met.Self.Leaf.lawfully c.args.sheet.now c.args.start c.args.place.now c.read_fields.new.place c.at.result (returns-clause-reads g c)).0
