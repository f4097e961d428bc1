-- `tallies::counting::sum_at` meets its contract: what is summed, and the groups that are left. Assumes nothing.
use Rattle.tallies.proofs.Groups.{sum_on, sum_none}
use native.Mathlib.Omega.{arith}
use Prim.Native.Nat.{◌+◌, ◌-◌}
use mathlib.Core.Path.{◌≡◌}
use Rattle.tallies.proofs.counting.sum_at.Goals as goal

pub loop-init : goal.loop-init
loop-init c = (omega arith, omega arith, omega arith)

pub overflow_add-sum : goal.overflow_add-sum
overflow_add-sum c = omega (arith, c.requires.counts_few.few c.loop.at (omega arith))

pub loop-preserved : goal.loop-preserved
loop-preserved c =
    let l = c.loop in
    let next : 8 - (l.counter + 1) ≡ 8 - l.counter - 1 = omega arith in (
      omega arith,
      omega (arith, c.requires.counts_few.few l.at (omega arith)),
      rw next (omega (arith, l.invariant.2, sum_on (8 - l.counter) c.args.counts.now l.at (omega arith))),
    )

pub returns : goal.returns
returns c = let l = c.loop in omega (arith, l.invariant.2, sum_none (8 - l.counter) c.args.counts.now l.at (omega arith))
