-- `questions::grid::places` meets its contract: the first `i` columns have their places, and the others 0. Assumes nothing.
use Rattle.std.specs.Prelude.{Some}
use Prim.Native.Nat.{ℕ, ◌<◌, ◌≤◌, ◌-◌}
use borrow.Author.Rules.{rules}
use lib.ListN.{length, get_or, replicate, get_or-replicate, length-set}
use mathlib.Core.List.{List, []}
use mathlib.Core.Path.{◌≡◌, refl, ◌∙◌, ap}
use native.Mathlib.Omega.{arith}
use Rattle.bags.proofs.ReadLaws.{many_done, many_last}
use Rattle.bags.specs.Reading.{many}
use Rattle.questions.proofs.ColumnLaws.{Columned, column_at}
use Rattle.questions.proofs.PlaceLaws.{at_number, grid_none, grid_more}
use Rattle.questions.specs.Columns.{column_end}
use Rattle.questions.specs.Questions.{cell}
use Rattle.questions.proofs.grid.places.Given as goal

abbrev pub invariant-loop-i : goal.invariant-loop-i
invariant-loop-i l = (many l.i (column_end l.s) l.at ≡ Some l.next) × (length l.grid ≡ 6) × ((k j : ℕ) → k < 6 → j < 8 → get_or (get_or l.grid k []) j 0 ≡ cell l.s l.at l.i k j) × (l.i ≤ l.n)
