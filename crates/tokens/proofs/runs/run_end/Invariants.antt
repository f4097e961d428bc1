-- `tokens::runs::run_end` meets its contract: the end of the run from `i` on is the end of the run from `at` on. Assumes nothing.
use mathlib.Core.Path.{◌≡◌}
use Rattle.tokens.specs.Runs.{run_end}
use Rattle.tokens.proofs.runs.run_end.Given as goal

abbrev pub invariant-loop-i : goal.invariant-loop-i
invariant-loop-i l = run_end l.sort l.text l.i ≡ run_end l.sort l.text l.at
