-- `lock_reader::actions::is_string` meets its contract: by the run of its bytes, and whether they are UTF-8. Assumes nothing.
use borrow.Author.Rules.{rules}
use Rattle.locks.proofs.EntryLaws.{string_is}
use Rattle.lock_reader.proofs.actions.is_string.Goals as goal

pub returns : goal.returns
returns c = string_is _ _ _ c.run_end.ensures.place c.is_utf8.ensures
