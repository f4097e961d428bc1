-- `tallies::held_for` meets its contract: the table is looked at only where it is asked for. Assumes nothing.
use Rattle.tallies.proofs.held_for.Goals as goal

pub returns-then-asked : goal.returns-then-asked
returns-then-asked c = rw c.if-asked.true c.held_policies.ensures
