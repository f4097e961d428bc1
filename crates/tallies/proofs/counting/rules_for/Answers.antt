-- `tallies::counting::rules_for` meets its contract: none for the system. Assumes nothing.

use Rattle.tallies.proofs.counting.rules_for.Goals as goal

pub returns-then-system : goal.returns-then-system
returns-then-system c = rw c.if-system.true

pub returns : goal.returns
returns c = rw c.if-system.false
