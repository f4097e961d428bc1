use Rattle.std.proofs.Common.{◌-◌, ◌<◌, ◌≤◌, length}
use Rattle.tokens_vectors.proofs.list.Given as goal

abbrev pub invariant-loop-t : goal.invariant-loop-t
invariant-loop-t g l = record {
  inside : l.at ≤ length l.text;
  few : l.count ≤ l.at;
  sum_below : l.sum < 1000003;
  told_inside : l.told.start ≤ length l.text;
}

abbrev pub decreases-loop-t : goal.decreases-loop-t
decreases-loop-t g l = length l.text - l.at
