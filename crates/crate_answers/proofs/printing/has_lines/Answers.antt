use Rattle.std.proofs.Common.{rules}
use Rattle.sheets.specs.Output.{is_of_days}
use Rattle.crate_answers.proofs.Whole.{lines_printed}
use Rattle.crate_answers.proofs.printing.has_lines.Goals as goal

pub returns : goal.returns
returns c =
    let bytes = c.args.sheet.now in
    lines_printed (is_of_days bytes) bytes c.args.lines.now c.in_ok-printed.printed c.eq.result c.in_ok-printed.ensures.prints (search rules) (search rules)
