-- `questions::grid::heads` meets its contract: the first `i` cells have their places, and the others 0. Assumes nothing.
use Rattle.std.specs.Prelude.{Some}
use Prim.Native.Nat.{ℕ, ◌<◌, ◌≤◌, ◌-◌}
use lib.ListN.{length, get_or, get_or-replicate, length-set}
use mathlib.Core.Path.{◌≡◌, refl, sym, ◌∙◌, ap}
use native.Mathlib.Omega.{arith}
use Rattle.bags.proofs.ReadLaws.{many_done, many_last}
use Rattle.bags.specs.Reading.{many, end_place}
use Rattle.questions.proofs.PlaceLaws.{first_of, first_none, fill_more, at_number}
use Rattle.questions.specs.Columns.{column_end}
use Rattle.questions.specs.Questions.{head_of}
use Rattle.questions.proofs.grid.heads.Given as goal

abbrev pub invariant-loop-i : goal.invariant-loop-i
invariant-loop-i l = (many l.i (column_end l.s) l.at ≡ Some l.next) × (length l.starts ≡ 6) × ((k : ℕ) → k < 6 → get_or l.starts k 0 ≡ first_of l.i (head_of l.s l.at) k) × (l.i ≤ l.n)
