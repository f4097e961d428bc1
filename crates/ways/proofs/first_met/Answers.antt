-- `ways::first_met` meets its contract. Assumes nothing.
use borrow.Author.Rules.{rules}
use borrow.Author.Tests.{ne_eqb}
use Rattle.ways.proofs.first_met.Goals as goal

pub returns-then-x-eq-IF : goal.returns-then-x-eq-IF
returns-then-x-eq-IF c = rw c.if-x-eq-IF.true

pub returns-else-x-eq-IF : goal.returns-else-x-eq-IF
returns-else-x-eq-IF c = rw (ne_eqb c.args.x.kind 28 c.if-x-eq-IF.false)
