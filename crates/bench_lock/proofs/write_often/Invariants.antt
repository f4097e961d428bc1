use Rattle.std.proofs.Common.{◌<◌, ◌≤◌, length}
use Rattle.bench_lock.proofs.write_often.Given as goal

abbrev pub invariant-loop : goal.invariant-loop
invariant-loop l = (l.sum < 1000003) × (l.size ≤ length l.bytes)
