-- `ways::Way::after_yes` meets its contract. Assumes nothing.
use borrow.Author.Tests.{ne_eqb}
use Rattle.ways.specs.Ways.{after_yes}
use borrow.Author.Rules.{rules}
use Rattle.ways.proofs.Way.after_yes.Goals as goal

pub returns-then-x-eq-AND : goal.returns-then-x-eq-AND
unfolding after_yes
returns-then-x-eq-AND c = rw c.if-x-eq-AND.true c.gone_on.ensures

pub returns-then-x-eq-IF : goal.returns-then-x-eq-IF
unfolding after_yes
returns-then-x-eq-IF c = rw c.if-x-eq-IF.true c.gone_on-then-x-eq-IF.ensures

pub returns-then-x-settles : goal.returns-then-x-settles
unfolding after_yes
returns-then-x-settles c = rw (ne_eqb c.args.x.kind 26 c.if-x-eq-AND.false, ne_eqb c.args.x.kind 28 c.if-x-eq-IF.false, c.if-x-settles.true) c.gone_on-then-x-settles.ensures

pub returns : goal.returns
unfolding after_yes
returns c = rw (ne_eqb c.args.x.kind 26 c.if-x-eq-AND.false, ne_eqb c.args.x.kind 28 c.if-x-eq-IF.false, c.if-x-settles.false) c.ended_by.ensures
