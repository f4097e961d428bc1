-- `slots::start_slot` meets its contract. Assumes nothing.
use Rattle.slots.specs.Slots.{start_slot}
use borrow.Author.Rules.{rules}
use Rattle.slots.proofs.start_slot.Goals as goal

pub returns : goal.returns
unfolding start_slot
returns c = record { is = c.mixed.ensures.is; low = c.mixed.ensures.low }
