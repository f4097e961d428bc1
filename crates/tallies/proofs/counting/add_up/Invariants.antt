-- `tallies::counting::add_up` meets its contract: the sums so far stand behind the eight groups. Assumes nothing.
use Rattle.tallies.proofs.Groups.{Summed}
use Prim.Native.Nat.{◌-◌, ◌≤◌}
use Rattle.tallies.proofs.counting.add_up.Given as goal

abbrev pub invariant-loop-i : goal.invariant-loop-i
invariant-loop-i l = (l.i ≤ 68) × Summed l.initial.counts l.counts l.i
