-- `table::entry_is` meets its contract: its two fields are compared as numbers, which says the same as their bytes. Assumes nothing.
use Prim.Native.Nat.{ℕ, ◌<◌}
use native.Mathlib.Omega.{arith}
use lib.ListN.{get_or}
use borrow.Author.Rules.{rules}
use borrow.Author.Tests.{le-leb, lt-leb}
use Rattle.table.specs.Layout.{entry_is}
use Rattle.table.proofs.Fields.{is_by_fields}
use Rattle.table.proofs.entry_is.Goals as goal

pub returns-then-p-table : goal.returns-then-p-table
returns-then-p-table c =
    let bytes : (i : ℕ) → get_or c.args.table.now i 0 < 256 = λ i. omega (arith, c.type_inv.table i) in
    rw (c.number_of-then-p-table.ensures, c.number_of.ensures) (is_by_fields _ _ _ (le-leb _ _ c.if-p-table.true) bytes)

pub returns-else-p-table : goal.returns-else-p-table
unfolding entry_is
returns-else-p-table c = rw (lt-leb _ _ c.if-p-table.false)
