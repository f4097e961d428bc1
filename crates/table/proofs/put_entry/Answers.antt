-- `table::put_entry` meets its contract: the five stores are `sets`. Assumes nothing.
use native.Mathlib.Numerals.{towards_suc}
use native.Mathlib.Omega.{arith}
use lib.ListN.{length-set}
use borrow.Author.Rules.{rules}
use borrow.Author.Tests.{le-leb, lt-leb}
use Rattle.table.specs.Layout.{put_at, entry_bytes}
use Rattle.table.proofs.put_entry.Goals as goal

pub bounds-table-p-then-p-table : goal.bounds-table-p-then-p-table
bounds-table-p-then-p-table c = simp length-set (omega arith)

pub bounds-table-p-then-p-table-2 : goal.bounds-table-p-then-p-table-2
bounds-table-p-then-p-table-2 c = simp length-set (omega arith)

pub bounds-table-p-then-p-table-3 : goal.bounds-table-p-then-p-table-3
bounds-table-p-then-p-table-3 c = simp length-set (omega arith)

pub bounds-table-p-then-p-table-4 : goal.bounds-table-p-then-p-table-4
bounds-table-p-then-p-table-4 c = simp length-set (omega arith)

pub returns-then-p-table : goal.returns-then-p-table
unfolding put_at entry_bytes
returns-then-p-table c = rw (le-leb _ _ c.if-p-table.true) (simp towards_suc)

pub returns-else-p-table : goal.returns-else-p-table
unfolding put_at
returns-else-p-table c = rw (lt-leb _ _ c.if-p-table.false)
