use Rattle.std.proofs.Common.{◌+◌, ◌*◌, ◌≤◌}
use Rattle.folder.specs.Added.{Added}
use Rattle.counts.specs.Tallied.{count_lines}
use Rattle.counts.proofs.put_counts.Given as goal

abbrev pub invariant-loop-n : goal.invariant-loop-n
invariant-loop-n l = record {
  put : Added l.initial.out l.at (count_lines l.word l.counts l.from l.n) l.out l.filled;
  room : l.filled ≤ l.at + 50 * l.n;
}
