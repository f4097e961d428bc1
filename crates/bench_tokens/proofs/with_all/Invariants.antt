use Rattle.std.proofs.Common.{◌-◌, ◌≤◌, length}
use Rattle.bench_tokens.proofs.with_all.Given as goal

abbrev pub invariant-loop-first : goal.invariant-loop-first
invariant-loop-first l = l.at ≤ length l.text

abbrev pub decreases-loop-first : goal.decreases-loop-first
decreases-loop-first l = length l.text - l.at
