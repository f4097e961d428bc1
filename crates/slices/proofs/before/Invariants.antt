-- `slices::before` meets its contract. The invariant: the first list stands before the second exactly when this holds of what is left of them from i on. Assumes nothing.
use mathlib.Core.Logic.{◌↔◌}
use lib.ListN.{drop}
use Rattle.slices.specs.Order.{SortsBefore}
use Rattle.slices.proofs.before.Given as goal

abbrev pub invariant-loop-i : goal.invariant-loop-i
invariant-loop-i l = SortsBefore l.a l.b ↔ SortsBefore (drop l.i l.a) (drop l.i l.b)
