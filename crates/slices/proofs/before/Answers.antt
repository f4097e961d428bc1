-- `slices::before` meets its contract. The invariant: the first list stands before the second exactly when this holds of what is left of them from i on. Assumes nothing.
use mathlib.Core.Logic.Iff
use native.Mathlib.Omega.{arith}
use Rattle.slices.proofs.Decided.{carried}
use Rattle.slices.proofs.Rest.{before_differs, before_on, before_lengths}
use Rattle.slices.proofs.before.Goals as goal

pub loop-i-init : goal.loop-i-init
loop-i-init c = Iff.rfl

pub returns-then-a-i : goal.returns-then-a-i
returns-then-a-i c = carried c.loop-i.invariant (before_differs c.args.a.now c.args.b.now c.loop-i.i (omega arith) (omega arith) c.if-a-i.true)

pub loop-i-preserved : goal.loop-i-preserved
loop-i-preserved c = Iff.trans c.loop-i.invariant (before_on c.args.a.now c.args.b.now c.loop-i.i (omega arith) (omega arith) c.if-a-i.false)

pub returns : goal.returns
returns c = carried c.loop-i.invariant (before_lengths _ _ c.loop-i.i (omega arith))
