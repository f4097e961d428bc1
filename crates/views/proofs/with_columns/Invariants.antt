-- `views::with_columns` meets its contract: the first `i` columns have their places, and what stands before the columns is the base's. Assumes nothing.
use Prim.Native.Nat.{◌-◌}
use borrow.Author.Rules.{rules}
use native.Mathlib.Omega.{arith}
use Rattle.views.proofs.PlacedLaws.{Columning, columning_starts, columning_on, columned}
use Rattle.views.proofs.with_columns.Given as goal

abbrev pub invariant-loop-i : goal.invariant-loop-i
invariant-loop-i l = Columning l.n l.heads l.initial.places l.places l.i
