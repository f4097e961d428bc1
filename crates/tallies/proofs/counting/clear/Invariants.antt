-- `tallies::counting::clear` meets its contract: the counts passed are 0. Assumes nothing.
use Rattle.tallies.proofs.Groups.{cleared}
use lib.Seq.{take_all}
use lib.ListN.{length, take, replicate, length-set}
use native.Mathlib.Omega.{arith}
use Prim.Native.Nat.{◌-◌, ◌≤◌}
use mathlib.Core.Path.{◌≡◌, refl, sym, ◌∙◌}
use Rattle.tallies.proofs.counting.clear.Given as goal

abbrev pub invariant-loop-i : goal.invariant-loop-i
invariant-loop-i l = (length l.counts ≡ 612) × (l.i ≤ 612) × (take l.i l.counts ≡ replicate l.i 0)

abbrev pub decreases-loop-i : goal.decreases-loop-i
decreases-loop-i l = 612 - l.i
