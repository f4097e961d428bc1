use Rattle.std.proofs.Common.{◌+◌, arith}
use Rattle.row_lines.proofs.RowLaws.{row_put}
use Rattle.row_lines.proofs.put_row.Goals as goal

pub returns : goal.returns
returns c =
    row_put c.args.page.now c.args.at c.four_at-row.ensures c.from-outcome.ensures c.from-policy.ensures c.eight_at-mark.ensures
    c.put_numbers.ensures.0 (omega arith) (omega (arith, c.type_inv.page (c.args.at + 4))) (omega (arith, c.type_inv.page (c.args.at + 5))) (omega arith)
