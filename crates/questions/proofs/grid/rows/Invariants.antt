-- `questions::grid::rows` meets its contract: the rows so far times the rows of the columns left are all rows. Assumes nothing.
use Prim.Native.Nat.{◌*◌, ◌≤◌}
use borrow.Author.Rules.{rules}
use mathlib.Core.Path.{◌≡◌, refl, sym, ◌∙◌}
use native.Mathlib.Nat.{one-mul}
use native.Mathlib.Omega.{arith}
use Rattle.bags.proofs.ReadLaws.{First, first, many_more}
use Rattle.bags.specs.Reading.{many}
use Rattle.questions.proofs.ColumnLaws.{Columned, column_at}
use Rattle.questions.proofs.PlaceLaws.{eights, eights_few, still_few, product_few, end_few, rows_on, rows_end}
use Rattle.questions.specs.Columns.{column_end}
use Rattle.questions.specs.Questions.{rows_of}
use Rattle.std.proofs.Common.{◌-◌}
use Rattle.questions.proofs.grid.rows.Given as goal

abbrev pub invariant-loop : goal.invariant-loop
invariant-loop l = (l.total * rows_of (l.n - l.counter) l.s l.next ≡ rows_of l.n l.s l.at) × (l.total * eights (l.n - l.counter) ≤ 262144) × (many (l.n - l.counter) (column_end l.s) l.next ≡ many l.n (column_end l.s) l.at)
