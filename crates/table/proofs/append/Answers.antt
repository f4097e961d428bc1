-- `table::append` meets its contract: the callees' results. Assumes nothing.
use mathlib.Core.Path.{refl}
use borrow.Author.Rules.{rules}
use Rattle.table.proofs.append.Goals as goal

pub returns : goal.returns
returns c = (rw c.entry_is-here.ensures refl, c.put_entry.ensures)
