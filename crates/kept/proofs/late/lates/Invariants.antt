-- `kept::late::lates` meets its contract: the marks of the columns passed are found. Assumes nothing.
use mathlib.Core.Path.{◌≡◌, refl}
use Prim.Native.Nat.{ℕ, ◌-◌, ◌≤◌, ◌<◌}
use native.Mathlib.Omega.{arith}
use lib.ListN.{length, get_or, length-set}
use Rattle.questions.proofs.PlaceLaws.{set_cases}
use Rattle.kept.specs.Notes.{Late}
use Rattle.kept.proofs.late.lates.Given as goal

abbrev pub invariant-loop-column : goal.invariant-loop-column
invariant-loop-column l = (length l.found ≡ 6) × (l.column ≤ 6) × ((j : ℕ) → j < l.column → Late l.looks l.policies j (get_or l.found j 0))

abbrev pub decreases-loop-column : goal.decreases-loop-column
decreases-loop-column l = 6 - l.column
