-- `ways::Way::inside_part` meets its contract. Assumes nothing.
use borrow.Author.Tests.{ne_eqb}
use Rattle.ways.specs.Ways.{inside_part}
use borrow.Author.Rules.{rules}
use Rattle.ways.proofs.Way.inside_part.Goals as goal

pub returns-then-x-eq-NOT : goal.returns-then-x-eq-NOT
unfolding inside_part
returns-then-x-eq-NOT c = rw c.if-x-eq-NOT.true c.gone_on.ensures

pub returns-else-x-eq-NOT : goal.returns-else-x-eq-NOT
unfolding inside_part
returns-else-x-eq-NOT c = rw (ne_eqb c.args.x.kind 24 c.if-x-eq-NOT.false) c.gone_on-else-x-eq-NOT.ensures
