use Rattle.std.proofs.Common.{◌<◌}
use Rattle.vectors.proofs.sum_of.Given as goal

abbrev pub invariant-loop-x : goal.invariant-loop-x
invariant-loop-x g l = l.sum < 1000003
