use Rattle.std.proofs.Common.{◌≤◌, length}
use Rattle.bench_bag.proofs.repeat.Given as goal

abbrev pub invariant-loop : goal.invariant-loop
invariant-loop l = l.size ≤ length l.bytes
