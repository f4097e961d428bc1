use Rattle.std.proofs.Common.{◌+◌, ◌*◌, ◌≤◌}
use Rattle.folder.specs.Added.{Added}
use Rattle.counts.specs.Tallied.{request_lines}
use Rattle.counts.proofs.put_requests.Given as goal

abbrev pub invariant-loop-k : goal.invariant-loop-k
invariant-loop-k l = record {
  put : Added l.initial.out l.at (request_lines l.counts l.policies l.k) l.out l.filled;
  room : l.filled ≤ l.at + 3429 * l.k;
}
