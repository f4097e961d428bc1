-- `ways::Way::after_no` meets its contract. Assumes nothing.
use borrow.Author.Tests.{ne_eqb}
use Rattle.ways.specs.Ways.{after_no}
use borrow.Author.Rules.{rules}
use Rattle.ways.proofs.Way.after_no.Goals as goal

pub returns-then-x-eq-OR : goal.returns-then-x-eq-OR
unfolding after_no
returns-then-x-eq-OR c = rw c.if-x-eq-OR.true c.gone_on.ensures

pub returns-then-x-eq-IF : goal.returns-then-x-eq-IF
unfolding after_no
returns-then-x-eq-IF c = rw c.if-x-eq-IF.true c.gone_on-then-x-eq-IF.ensures

pub returns-then-x-settles : goal.returns-then-x-settles
unfolding after_no
returns-then-x-settles c = rw (ne_eqb c.args.x.kind 27 c.if-x-eq-OR.false, ne_eqb c.args.x.kind 28 c.if-x-eq-IF.false, c.if-x-settles.true) c.gone_on-then-x-settles.ensures

pub returns : goal.returns
unfolding after_no
returns c = rw (ne_eqb c.args.x.kind 27 c.if-x-eq-OR.false, ne_eqb c.args.x.kind 28 c.if-x-eq-IF.false, c.if-x-settles.false) c.ended_by.ensures
