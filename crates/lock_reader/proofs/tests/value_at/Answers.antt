-- `lock_reader::tests::value_at` meets its contract. Assumes nothing.
use Rattle.locks.proofs.TestLaws.{value_some, value_none}
use native.Mathlib.Omega.{arith}
use borrow.Author.Rules.{rules}
use Rattle.lock_reader.proofs.tests.value_at.Goals as goal

pub returns-then-start-end : goal.returns-then-start-end
returns-then-start-end c = value_some c.run_end-start.ensures c.run_end-end.ensures c.if-start-end.true

pub returns-else-start-end : goal.returns-else-start-end
returns-else-start-end c = value_none c.run_end-start.ensures c.run_end-end.ensures (omega arith)
