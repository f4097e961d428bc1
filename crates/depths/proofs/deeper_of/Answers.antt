-- `depths::deeper_of` meets its contract. Assumes nothing.
use Rattle.std.proofs.Common.{arith}
use Rattle.std.proofs.lemmas.Bool.Decides.{nat_tests}
use Rattle.depths.specs.Columns.{deeper}
use Rattle.depths.proofs.deeper_of.Goals as goal
use Rattle.depths.proofs.deeper_of.Goals.{else-a-k-via-then-a-k+else-k-but, else-a-k-via-else-a-k}

pub returns-then-k-but : goal.returns-then-k-but
unfolding deeper
returns-then-k-but c = grind (arith, nat_tests)

pub returns-else-a-k : goal.returns-else-a-k
unfolding deeper
returns-else-a-k c = elim c.else-a-k.branch [ else-a-k-via-then-a-k+else-k-but w ↦ grind (arith, nat_tests) | else-a-k-via-else-a-k w ↦ grind (arith, nat_tests) ]
