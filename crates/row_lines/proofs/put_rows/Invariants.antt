use Rattle.std.proofs.Common.{◌*◌, ◌≤◌}
use Rattle.folder.specs.Added.{Added}
use Rattle.row_lines.specs.RowLines.{row_lines}
use Rattle.row_lines.proofs.put_rows.Given as goal

abbrev pub invariant-loop-n : goal.invariant-loop-n
invariant-loop-n l = record {
  put : Added l.initial.out 0 (row_lines l.n l.page) l.out l.filled;
  room : l.filled ≤ 40 * l.n;
}
