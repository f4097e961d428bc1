-- `kept::late::late` meets its contract: the bits of the policies passed are set where the column matters. Assumes nothing.
use mathlib.Core.Path.{◌≡◌, ap₂}
use mathlib.Core.Bool.{Bool, ◌||◌}
use Prim.Native.Nat.{ℕ, ◌+◌, ◌-◌, ◌^◌, ◌≤◌, ◌<◌}
use native.Mathlib.Omega.{arith}
use borrow.Author.Rules.{rules}
use lib.Dec.{leb, ltb}
use Rattle.marks.specs.Marks.{is_set}
use Rattle.kept.specs.Notes.{matters}
use Rattle.kept.proofs.Noting.{late_none, late_more, late_fits, late_room, late_all}
use Rattle.kept.proofs.late.late.Given as goal

abbrev pub invariant-loop-i : goal.invariant-loop-i
invariant-loop-i l = (l.i ≤ l.policies) × (l.mark < 2 ^ (l.policies - l.i)) × ((k : ℕ) → l.i + k < l.policies → is_set l.mark k ≡ matters l.looks l.column (l.i + k))

abbrev pub decreases-loop-i : goal.decreases-loop-i
decreases-loop-i l = l.i
