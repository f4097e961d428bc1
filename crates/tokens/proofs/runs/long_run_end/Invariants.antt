-- `tokens::runs::long_run_end` meets its contract: the run's end from `i` on, and from each of the next places that are passed, is that from `at` on. Assumes nothing.
use mathlib.Core.Path.{◌≡◌}
use Prim.Native.Nat.{◌≤◌, ◌-◌}
use lib.ListN.{length}
use Rattle.tokens.specs.Runs.{run_end}
use Rattle.tokens.proofs.runs.long_run_end.Given as goal

abbrev pub invariant-loop-i : goal.invariant-loop-i
invariant-loop-i l = (run_end l.sort l.text l.i ≡ run_end l.sort l.text l.at) × (l.at ≤ l.i) × (l.i ≤ length l.text)

abbrev pub decreases-loop-i : goal.decreases-loop-i
decreases-loop-i l = length l.text - l.i
