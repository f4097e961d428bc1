-- `choices::lasts` meets its contract: the first `i` cells have their last choices, and the others 0. Assumes nothing.
use Rattle.questions.specs.Columns.{count_at}
use Rattle.questions.proofs.PlaceLaws.{first_of, first_none, fill_more}
use Rattle.questions.specs.Questions.{count_of}
use lib.ListN.{length, get_or, get_or-replicate, length-set}
use native.Mathlib.Omega.{arith}
use Prim.Native.Nat.{ℕ, ◌≤◌, ◌<◌, ◌-◌}
use mathlib.Core.Path.{◌≡◌, refl, ap, ◌∙◌}
use Rattle.choices.proofs.lasts.Given as goal

abbrev pub invariant-loop-i : goal.invariant-loop-i
invariant-loop-i l = (length l.ends ≡ 6) × ((k : ℕ) → k < 6 → get_or l.ends k 0 ≡ first_of l.i (λ k. count_of l.s (get_or l.heads k 0) - 1) k)
