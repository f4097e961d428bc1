-- `lock_reader::vocabulary::is_entry` meets its contract. Assumes nothing.
use Rattle.locks.specs.Reading.{is_entry, word_of, path_of}
use Rattle.slices.specs.Parts.{part}
use borrow.Author.Rules.{rules}
use Rattle.lock_reader.proofs.vocabulary.is_entry.Goals as goal

pub returns-then-e : goal.returns-then-e
unfolding is_entry
returns-then-e c = rw c.if-e.true

pub returns : goal.returns
unfolding is_entry word_of path_of part
returns c = rw (c.if-e.false, c.is_word.ensures, c.is_path.ensures, c.find-later.ensures.answer)
