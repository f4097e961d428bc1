-- `kept::forget` meets its contract: the notes before `at + c` are set. Assumes nothing.
use mathlib.Core.Path.{◌≡◌, ◌∙◌}
use mathlib.Core.Bool.{cond, ◌&&◌}
use Prim.Native.Nat.{ℕ, ◌+◌, ◌-◌, ◌≤◌}
use native.Mathlib.Omega.{arith}
use lib.Dec.{leb, ltb}
use lib.ListN.{length, get_or, length-set}
use Rattle.questions.proofs.PlaceLaws.{set_cases}
use Rattle.kept.proofs.Noting.{clear_none, clear_here, clear_other, clear_all, not_cleared}
use Rattle.kept.proofs.forget.Given as goal

abbrev pub invariant-loop-c : goal.invariant-loop-c
invariant-loop-c l = (length l.notes ≡ 512) × ((j : ℕ) → get_or l.notes j 0 ≡ cond (leb l.at j && ltb j (l.at + l.c)) 0 (get_or l.initial.notes j 0))
