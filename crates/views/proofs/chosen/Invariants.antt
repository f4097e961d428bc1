-- `views::chosen` meets its contract: the first `i` cells have their places, and the others 0. Assumes nothing.
use Prim.Native.Nat.{ℕ, ◌<◌, ◌≤◌, ◌-◌}
use lib.ListN.{length, get_or, get_or-replicate, length-set}
use mathlib.Core.List.{[]}
use mathlib.Core.Path.{◌≡◌, refl, ◌∙◌, ap}
use native.Mathlib.Omega.{arith}
use Rattle.questions.proofs.PlaceLaws.{first_of, first_none, fill_more}
use Rattle.views.proofs.chosen.Given as goal

abbrev pub invariant-loop-i : goal.invariant-loop-i
invariant-loop-i l = (length l.values ≡ 6) × ((k : ℕ) → k < 6 → get_or l.values k 0 ≡ first_of l.i (λ i. get_or (get_or l.grid i []) (get_or l.choices i 0) 0) k) × (l.i ≤ l.n)
