use Rattle.std.proofs.Common.{rules}
use Rattle.sheets.proofs.Works.{worked_by_hand}
use Rattle.sheets.proofs.printing.print_sheet.Goals as goal

pub returns-then-is_of_days : goal.returns-then-is_of_days
returns-then-is_of_days c = record { prints = search rules; worked = worked_by_hand }

pub returns-else-is_of_days : goal.returns-else-is_of_days
returns-else-is_of_days c = record { prints = search rules; worked = worked_by_hand }
