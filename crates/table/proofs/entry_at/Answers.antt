-- `table::entry_at` meets its contract. Assumes nothing.
use borrow.Author.Rules.{rules}
use borrow.Author.Tests.{lt-leb}
use native.Mathlib.Omega.{arith}
use Rattle.table.specs.Layout.{entry_at}
use Rattle.table.proofs.Holding.{room_many}
use Rattle.table.proofs.entry_at.Goals as goal

pub entry_in-requires : goal.entry_in-requires
entry_in-requires c = let h = c.if-number-table.true in room_many _ _ (omega arith)

pub returns : goal.returns
unfolding entry_at
returns c = rw (lt-leb _ _ c.if-number-table.false)
