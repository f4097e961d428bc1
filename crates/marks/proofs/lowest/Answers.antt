-- `marks::lowest` meets its contract: no bit is set, or the zeros below the lowest are counted. Assumes nothing.
use native.Mathlib.Omega.{arith}
use lib.Count.{trailing_le}
use Rattle.marks.proofs.Bits.{lowest_none, lowest_there}
use Rattle.marks.proofs.lowest.Goals as goal

pub returns-then-mark-eq0 : goal.returns-then-mark-eq0
returns-then-mark-eq0 c = lowest_none _ c.if-mark-eq0.true

pub overflow_cast-result : goal.overflow_cast-result
overflow_cast-result c = omega (arith, trailing_le 64 c.args.mark)

pub overflow_add-result : goal.overflow_add-result
overflow_add-result c = omega (arith, trailing_le 64 c.args.mark)

pub returns-else-mark-eq0 : goal.returns-else-mark-eq0
returns-else-mark-eq0 c = lowest_there c.args.mark c.if-mark-eq0.false
