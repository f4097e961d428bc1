-- `operators::told_of` meets its contract. Assumes nothing.
use Rattle.operators.proofs.VerdictLaws.{told_yes, told_no}
use Rattle.operators.proofs.told_of.Goals as goal

pub returns-then-b : goal.returns-then-b
returns-then-b c = told_yes _ c.if-b.true

pub returns-else-b : goal.returns-else-b
returns-else-b c = told_no _ c.if-b.false
