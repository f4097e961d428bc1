use Rattle.std.proofs.Common.{◌<◌}
use Rattle.bench_tally.proofs.tally_often.Given as goal

abbrev pub invariant-loop : goal.invariant-loop
invariant-loop l = l.sum < 1000003
