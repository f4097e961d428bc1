-- `lock_reader::tests::test_at` meets its contract: a test, or none. Assumes nothing.
use Rattle.locks.proofs.TestLaws.{test_bare, test_found, test_none}
use borrow.Author.Rules.{rules}
use Rattle.lock_reader.proofs.tests.test_at.Goals as goal

pub returns-in_default : goal.returns-in_default
returns-in_default c = test_bare c.run_end-word.ensures c.run_end-word_end.ensures c.find-e.ensures c.next_token-m.ensures.is c.operand_at.ensures c.in_default.is _ c.no_test.ensures

pub run_end-next-requires : goal.run_end-next-requires
run_end-next-requires c = (c.operand_at.ensures.lies c.in-Some.o c.in-Some.is).high

pub overflow_sub-small : goal.overflow_sub-small
overflow_sub-small c = (c.operand_at.ensures.lies c.in-Some.o c.in-Some.is).order

pub returns-then-small-goes_with : goal.returns-then-small-goes_with
returns-then-small-goes_with c = test_found c.run_end-word.ensures c.run_end-word_end.ensures c.find-e.ensures c.next_token-m.ensures.is c.operand_at.ensures c.in-Some.is c.run_end-next.ensures (rw (← c.goes_on.ensures, ← c.goes_with.ensures) c.if-small-goes_with.true)

pub returns-else-small-goes_with : goal.returns-else-small-goes_with
returns-else-small-goes_with c = test_none c.run_end-word.ensures c.run_end-word_end.ensures c.find-e.ensures c.next_token-m.ensures.is c.operand_at.ensures c.in-Some.is c.run_end-next.ensures _ c.no_test-else-small-goes_with.ensures (rw (← c.goes_on.ensures, ← c.goes_with.ensures) c.if-small-goes_with.false)
