-- `table::entry_in` meets its contract: the bytes read are those of `entry_at`. Assumes nothing.
use Prim.Native.Nat.{ℕ, ◌+◌, ◌*◌, ◌≤◌, ◌<◌}
use mathlib.Core.List.{List}
use native.Mathlib.Omega.{arith}
use lib.ListN.{length}
use borrow.Author.Rules.{rules}
use borrow.Author.Tests.{le-leb}
use Rattle.table.specs.Layout.{entry_size, entries_in, entry_at}
use Rattle.table.proofs.Holding.{many_room}
use Rattle.table.proofs.entry_in.Goals as goal

room : (T : List ℕ) (n : ℕ) → n < entries_in T → entry_size * n + entry_size ≤ length T
room T n h = let r = many_room T (n + 1) (omega arith) in omega arith

pub overflow_mul-p : goal.overflow_mul-p
overflow_mul-p c = let h = room _ _ c.requires in search rules

pub bounds-table-p : goal.bounds-table-p
bounds-table-p c = let h = room _ _ c.requires in search rules

pub overflow_add-p : goal.overflow_add-p
overflow_add-p c = let h = room _ _ c.requires in search rules

pub bounds-table-p-2 : goal.bounds-table-p-2
bounds-table-p-2 c = let h = room _ _ c.requires in search rules

pub overflow_add-p-2 : goal.overflow_add-p-2
overflow_add-p-2 c = let h = room _ _ c.requires in search rules

pub bounds-table-p-3 : goal.bounds-table-p-3
bounds-table-p-3 c = let h = room _ _ c.requires in search rules

pub overflow_add-p-3 : goal.overflow_add-p-3
overflow_add-p-3 c = let h = room _ _ c.requires in search rules

pub bounds-table-p-4 : goal.bounds-table-p-4
bounds-table-p-4 c = let h = room _ _ c.requires in search rules

pub overflow_add-p-4 : goal.overflow_add-p-4
overflow_add-p-4 c = let h = room _ _ c.requires in search rules

pub bounds-table-p-5 : goal.bounds-table-p-5
bounds-table-p-5 c = let h = room _ _ c.requires in search rules

pub returns : goal.returns
unfolding entry_at
returns c = rw (le-leb _ _ (room _ _ c.requires), c.number_of-2.ensures, c.number_of.ensures)
