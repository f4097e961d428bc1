-- `views::with_columns` meets its contract: the first `i` columns have their places, and what stands before the columns is the base's. Assumes nothing.
use Prim.Native.Nat.{◌-◌}
use borrow.Author.Rules.{rules}
use native.Mathlib.Omega.{arith}
use Rattle.views.proofs.PlacedLaws.{Columning, columning_starts, columning_on, columned}
use Rattle.views.proofs.with_columns.Goals as goal

pub loop-i-init : goal.loop-i-init
loop-i-init c = columning_starts _ _ c.args.base (omega arith)

pub overflow_cast-places-in-loop-i : goal.overflow_cast-places-in-loop-i
overflow_cast-places-in-loop-i c = omega (arith, c.requires.by_index c.loop-i.i (omega arith))

pub loop-i-preserved : goal.loop-i-preserved
loop-i-preserved c = columning_on _ _ _ _ _ c.loop-i.invariant c.loop-i-test.true

pub returns : goal.returns
returns c = columned _ _ _ _ _ c.loop-i.invariant c.requires.n_le_most_columns (omega arith)
