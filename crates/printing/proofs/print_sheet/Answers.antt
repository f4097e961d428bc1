use Rattle.std.proofs.Common.{arith}
use Rattle.printing.proofs.PageLaws.{few_written, first_accepted, first_printed, first_counted, refusal_printed, rows_printed}
use Rattle.printing.proofs.print_sheet.Goals as goal

pub print_rows-requires : goal.print_rows-requires
print_rows-requires g c =
    let few = few_written (first_printed c.sheet.ensures (omega arith) c.in-Ok.is c.row_count-rows.ensures.is c.row_count-rows.ensures.few) (omega arith) in
    (omega arith, omega arith)

pub print_pages-allowed-requires-clause-accepted : goal.print_pages-allowed-requires-clause-accepted
print_pages-allowed-requires-clause-accepted g c = first_accepted c.sheet.ensures (omega arith) c.in-Ok.is c.row_count-rows.ensures.is c.row_count-rows.ensures.few

pub print_pages-allowed-requires-clause-listed_before : goal.print_pages-allowed-requires-clause-listed_before
print_pages-allowed-requires-clause-listed_before g c = first_counted (first_printed c.sheet.ensures (omega arith) c.in-Ok.is c.row_count-rows.ensures.is c.row_count-rows.ensures.few)

pub returns-in-Err : goal.returns-in-Err
returns-in-Err g c = refusal_printed c.sheet.ensures (omega arith) c.in-Err.is

pub returns-in-Ok : goal.returns-in-Ok
returns-in-Ok g c =
    rows_printed (first_accepted c.sheet.ensures (omega arith) c.in-Ok.is c.row_count-rows.ensures.is c.row_count-rows.ensures.few) c.print_pages-allowed.ensures
