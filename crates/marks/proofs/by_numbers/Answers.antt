-- `marks::by_numbers` meets its contract: by which number is not 0. Assumes nothing.
use native.Mathlib.Omega.{arith}
use Rattle.meaning.proofs.Deciding.{by_none, by_permit, by_forbid}
use mathlib.Core.Path.{sym}
use Rattle.marks.proofs.by_numbers.Goals as goal

pub returns-then-forbid-gt0 : goal.returns-then-forbid-gt0
returns-then-forbid-gt0 c = sym (by_forbid _ _ c.if-forbid-gt0.true)

pub returns-then-permit-gt0 : goal.returns-then-permit-gt0
returns-then-permit-gt0 c = sym (by_permit _ _ (omega arith) c.if-permit-gt0.true)

pub returns-else-permit-gt0 : goal.returns-else-permit-gt0
returns-else-permit-gt0 c = sym (by_none _ _ (omega arith) (omega arith))
