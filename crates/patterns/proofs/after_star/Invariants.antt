-- `patterns::after_star` meets its contract. The measure: what the run can still gain, and below that, as a second digit, what is left of the pattern. Assumes nothing.
use Rattle.patterns.proofs.Trials.{Tried}
use lib.ListN.{length}
use Prim.Native.Nat.{suc, ◌+◌, ◌-◌, ◌*◌}
use Rattle.patterns.proofs.after_star.Given as goal

abbrev pub invariant-loop-p : goal.invariant-loop-p
invariant-loop-p l = Tried l.rest l.string l.from l.run l.p l.s

abbrev pub decreases-loop-p : goal.decreases-loop-p
decreases-loop-p l = (length l.string - l.run) * suc (length l.rest) + (length l.rest - l.p)
