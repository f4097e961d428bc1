-- `lock_reader::vocabulary::is_word` meets its contract. Assumes nothing.
use native.Mathlib.Omega.{arith}
use Rattle.locks.proofs.EntryLaws.{short_none, short_long, short_is}
use borrow.Author.Rules.{rules}
use Rattle.lock_reader.proofs.vocabulary.is_word.Goals as goal

pub returns-then-word-eq0 : goal.returns-then-word-eq0
returns-then-word-eq0 c = short_none _ c.if-word-eq0.true

pub returns-then-word-gt64 : goal.returns-then-word-gt64
returns-then-word-gt64 c = short_long _ c.if-word-gt64.true

pub returns : goal.returns
returns c = short_is _ _ _ (omega arith) c.is_of.ensures c.run_end.ensures.place
