-- `lock_reader::tests::operand_at` meets its contract: behind `:` a value, behind another mark a number. Assumes nothing.
use Rattle.locks.proofs.TestLaws.{operand_value, operand_number}
use borrow.Author.Rules.{rules}
use Rattle.lock_reader.proofs.tests.operand_at.Goals as goal

pub returns-then-mark-eq-COLON : goal.returns-then-mark-eq-COLON
returns-then-mark-eq-COLON c = operand_value c.if-mark-eq-COLON.true c.value_at.ensures

pub returns-else-mark-eq-COLON : goal.returns-else-mark-eq-COLON
returns-else-mark-eq-COLON c = operand_number c.if-mark-eq-COLON.false c.number_at.ensures
