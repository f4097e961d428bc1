-- `operands::values::same_string` meets its contract. Assumes nothing.
use Rattle.operands.proofs.ValueLaws.{same_is}
use Rattle.operands.proofs.values.same_string.Goals as goal

pub returns-else-a-b : goal.returns-else-a-b
returns-else-a-b c = same_is _ _ _ c.eq.ensures
