-- `ways::Way::after_missing` meets its contract. Assumes nothing.
use borrow.Author.Tests.{ne_eqb}
use Rattle.ways.specs.Ways.{after_missing}
use native.Mathlib.Omega.{arith}
use Rattle.ways.proofs.Way.after_missing.Goals as goal

pub returns-then-settles : goal.returns-then-settles
unfolding after_missing
returns-then-settles c = rw c.if-settles.true (rw c.if-settles.true at c.after_no.ensures)

pub returns-in-27 : goal.returns-in-27
unfolding after_missing
returns-in-27 c = rw (c.if-settles.false, c.in-27.is) c.gone_on.ensures

pub returns-in-26 : goal.returns-in-26
unfolding after_missing
returns-in-26 c = rw (c.if-settles.false, c.in-26.is) c.gone_on-in-26.ensures

pub returns-in_default : goal.returns-in_default
unfolding after_missing
returns-in_default c = rw (c.if-settles.false, ne_eqb c.args.x.kind 27 (λ e. omega arith), ne_eqb c.args.x.kind 26 (λ e. omega arith)) c.ended_by.ensures
