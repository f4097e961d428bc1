use Rattle.std.proofs.Common.{◌<◌, ◌≤◌, length}
use Rattle.bench_lookup.proofs.look_up_often.Given as goal

abbrev pub invariant-loop : goal.invariant-loop
invariant-loop l = (l.sum < 1000003) × (l.size ≤ length l.bytes)
