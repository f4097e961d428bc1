-- `places::place_of` meets its contract: from `i` on, the walk comes to the place. Assumes nothing.
use mathlib.Core.Path.{◌≡◌}
use Prim.Native.Nat.{◌+◌, ◌-◌, ◌≤◌}
use lib.ListN.{drop}
use Rattle.places.specs.Places.{past_all, place_of}
use Rattle.places.proofs.place_of.Given as goal

abbrev pub invariant-loop-i : goal.invariant-loop-i
invariant-loop-i l = (past_all (l.at - l.i) (drop l.i l.text) l.k l.p ≡ place_of l.text l.at) × (l.p.line ≤ l.i + 1) × (l.p.column ≤ l.i + 1)
