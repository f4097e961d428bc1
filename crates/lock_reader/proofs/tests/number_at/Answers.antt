-- `lock_reader::tests::number_at` meets its contract. Assumes nothing.
use Rattle.locks.proofs.TestLaws.{number_some, number_none}
use borrow.Author.Rules.{rules}
use Rattle.lock_reader.proofs.tests.number_at.Goals as goal

pub returns-then-t-eq-NUMBER : goal.returns-then-t-eq-NUMBER
returns-then-t-eq-NUMBER c = number_some c.next_token-t.ensures.is c.next_token-t.ensures.lies c.if-t-eq-NUMBER.true

pub returns-else-t-eq-NUMBER : goal.returns-else-t-eq-NUMBER
returns-else-t-eq-NUMBER c = number_none c.next_token-t.ensures.is c.if-t-eq-NUMBER.false
