-- `tallies::lent::part_at` meets its contract: a part is wholly there, cut off, or without its length byte. Assumes nothing.
use Rattle.tallies.proofs.Lending.{part_whole, part_short, part_none}
use native.Mathlib.Omega.{arith}
use Rattle.tallies.proofs.lent.part_at.Goals as goal

pub overflow_cast-size : goal.overflow_cast-size
overflow_cast-size c = omega (arith, c.type_inv.requests c.args.at)

pub returns-then-size-n : goal.returns-then-size-n
returns-then-size-n c = part_whole _ _ c.if-at-n.true c.if-size-n.true

pub returns-else-size-n : goal.returns-else-size-n
returns-else-size-n c = part_short _ _ c.if-at-n.true (omega (arith, c.if-size-n.false))

pub returns-else-at-n : goal.returns-else-at-n
returns-else-at-n c = part_none _ _ (omega (arith, c.if-at-n.false))
