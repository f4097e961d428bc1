-- `table::recorded` meets its contract, by the kind of the first entry. Assumes nothing.
use borrow.Author.Rules.{rules}
use borrow.Author.Tests.{lt-ltb, le-ltb}
use Rattle.table.specs.Recorded.{recorded_by}
use Rattle.table.proofs.recorded.Goals as goal

pub returns-then-entry_at-gt-FORBID : goal.returns-then-entry_at-gt-FORBID
unfolding recorded_by
returns-then-entry_at-gt-FORBID c = rw (← c.entry_at.ensures, lt-ltb _ _ c.if-entry_at-gt-FORBID.true)

pub returns-else-entry_at-gt-FORBID : goal.returns-else-entry_at-gt-FORBID
unfolding recorded_by
returns-else-entry_at-gt-FORBID c = rw (← c.entry_at.ensures, le-ltb _ _ c.if-entry_at-gt-FORBID.false)
