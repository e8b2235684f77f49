use Rattle.std.proofs.Common.{◌<◌, ◌+◌, length, vec_capacity, vec_items, Ok, Err, OnErr, Result, arith}
use Rattle.texts.proofs.Appending.{room_missing, together_more}
use Rattle.texts.proofs.lines.append_lines.Goals as goal

on_err_of : {T E P : Type 0} (r : Result T E) → P → OnErr r P
on_err_of (Ok x) p = tt
on_err_of (Err e) p = p

pub loop-line-preserved : goal.loop-line-preserved
loop-line-preserved g c = record {
  written =
      together_more g.L.Line.text c.args.lines.now c.loop-line.line-index _ (vec_items c.args.out.now) (vec_items c.loop-line.out) _ c.loop-line-test.true c.line-item.is
      c.loop-line.invariant.written c.in_ok-append_line.ensures.ok;
  room = omega arith;
}

pub returns-in_err-append_line-clause-full : goal.returns-in_err-append_line-clause-full
returns-in_err-append_line-clause-full g c =
    let text = g.L.Line.text in
    let line = c.line-item.result in
    let few : vec_capacity c.args.out.now < length (vec_items c.loop-line.out) + length (text line) = let f = c.in_err-append_line.ensures.full in omega arith in
    let full = room_missing text c.args.lines.now c.loop-line.line-index line (vec_items c.args.out.now) (vec_items c.loop-line.out) (vec_capacity c.args.out.now) c.loop-line-test.true c.line-item.is c.loop-line.invariant.written few in
    on_err_of c.from_residual.result (omega arith)
