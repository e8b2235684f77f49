use Rattle.std.proofs.Common.{◌++◌, ◌<◌, ◌^◌, codes, decimal, subst, arith}
use Rattle.std.proofs.lemmas.List.{length-append}
use Rattle.faults.specs.Faults.{shown}
use Rattle.texts.specs.Laws.Writes.{put_then}
use Rattle.texts.specs.Refusals.{refusal_text}
use Rattle.quote.proofs.Remarks.{refusal_short}
use Rattle.quote.proofs.remark.RefusedSheetLine.put.Goals as goal

pub returns : goal.returns
returns c =
    let s = c.args.self.now in
    let why = refusal_text (shown s.fault) in
    let behind_line = codes ": " ++ why in
    let behind_number = codes " on line " ++ (decimal s.line ++ behind_line) in
    record {
      put =
          put_then c.bytes.ensures
          (put_then c.decimal.ensures.put (put_then c.bytes-2.ensures (put_then c.decimal-2.ensures.put (put_then c.bytes-3.ensures c.put.ensures.put))));
      short =
          omega (
            arith,
            length-append (codes "sheet ") (decimal s.number ++ behind_number),
            length-append (decimal s.number) behind_number,
            length-append (codes " on line ") (decimal s.line ++ behind_line),
            length-append (decimal s.line) behind_line,
            length-append (codes ": ") why,
            c.decimal.ensures.short,
            c.decimal-2.ensures.short,
            refusal_short s.fault (subst (λ n. n < 2 ^ 64) c.unwrap_or-byte.ensures (omega (arith, c.unwrap_or-byte.type_inv))),
          );
    }
