use Rattle.std.proofs.Common.{arith}
use Rattle.printing.proofs.PageLaws.{rows_fit, page_printed, never_refused}
use Rattle.printing.proofs.print_page.Goals as goal

pub print_rows-requires : goal.print_rows-requires
print_rows-requires g c =
    let fit = rows_fit c.sheet.ensures c.requires.accepted (omega arith) (omega arith) c.in-Ok.is in
    (omega arith, omega arith)

pub returns-in-Err : goal.returns-in-Err
returns-in-Err g c = never_refused c.sheet.ensures c.requires.accepted (omega arith) (omega arith) c.in-Err.is

pub returns-in-Ok : goal.returns-in-Ok
returns-in-Ok g c = page_printed c.sheet.ensures c.requires.accepted (omega arith) (omega arith) c.in-Ok.is
