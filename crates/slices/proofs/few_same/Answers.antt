-- `slices::few_same` meets its contract. The invariant: the bytes before i are the same in both. Assumes nothing.
use mathlib.Core.Path.{ap}
use mathlib.Core.List.{List}
use Prim.Native.Nat.{ℕ}
use native.Mathlib.Omega.{arith}
use lib.ListN.{get_or}
use Rattle.slices.proofs.Decided.{no_to}
use Rattle.slices.proofs.Rest.{same_on, same_lengths}
use Rattle.slices.proofs.few_same.Goals as goal

pub loop-i-init : goal.loop-i-init
loop-i-init c k h = absurd (omega arith)

pub returns-then-differs : goal.returns-then-differs
returns-then-differs c = no_to (λ e. c.if-differs.true (ap (λ (l : List ℕ). get_or l c.loop-i.i 0) e))

pub loop-i-preserved : goal.loop-i-preserved
loop-i-preserved c = same_on c.args.a.now c.args.b.now c.loop-i.i c.loop-i.invariant c.if-differs.false

pub returns : goal.returns
returns c = same_lengths c.args.a.now c.args.b.now c.loop-i.i (omega arith) c.loop-i.invariant
