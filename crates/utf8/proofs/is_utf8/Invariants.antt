-- `utf8::is_utf8` meets its contract. The invariant: the whole is UTF-8 exactly when what is left of it is. Assumes nothing.
use Rattle.utf8.specs.Characters.{Utf8}
use lib.ListN.{length, drop}
use Prim.Native.Nat.{◌-◌, ◌≤◌}
use mathlib.Core.Logic.{◌↔◌}
use Rattle.utf8.proofs.is_utf8.Given as goal

abbrev pub invariant-loop-i : goal.invariant-loop-i
invariant-loop-i l = (l.i ≤ length l.s) × (Utf8 l.s ↔ Utf8 (drop l.i l.s))

abbrev pub decreases-loop-i : goal.decreases-loop-i
decreases-loop-i l = length l.s - l.i
