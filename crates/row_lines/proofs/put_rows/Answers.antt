use Rattle.std.proofs.Common.{◌≡◌, arith}
use Rattle.row_lines.proofs.RowLaws.{no_row, row_on, rows_done}
use Rattle.row_lines.proofs.put_rows.Goals as goal

pub loop-n-init : goal.loop-n-init
loop-n-init c = record { put = no_row _ _; room = omega arith }

pub loop-n-preserved : goal.loop-n-preserved
loop-n-preserved c = record { put = row_on _ _ c.loop-n.invariant.put c.put_row-filled.ensures.0; room = omega arith }

pub returns : goal.returns
returns c = let e : c.loop-n.n ≡ c.args.written = omega arith in rows_done _ _ (rw e at c.loop-n.invariant.put) (omega arith)
