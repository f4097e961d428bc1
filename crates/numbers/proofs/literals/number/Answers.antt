-- `numbers::literals::number` meets its contract. Assumes nothing.
use Rattle.numbers.proofs.Spelled.{has_first, promised}
use Rattle.numbers.specs.Literals.{number_in}
use lib.Ieee.{neg}
use borrow.Author.Tests.{eq-eqb, ne_eqb}
use mathlib.Core.Path.{ap}
use borrow.Author.Rules.{rules}
use Rattle.numbers.proofs.literals.number.Goals as goal

pub bounds-text-0 : goal.bounds-text-0
bounds-text-0 c = has_first c.requires

pub returns-then-text-eq45 : goal.returns-then-text-eq45
unfolding number_in
returns-then-text-eq45 c = record { value = (promised c.requires (rw (eq-eqb _ _ c.if-text-eq45.true) (ap neg c.magnitude-size.ensures))).0; finite = (promised c.requires (rw (eq-eqb _ _ c.if-text-eq45.true) (ap neg c.magnitude-size.ensures))).1 }

pub returns-else-text-eq45 : goal.returns-else-text-eq45
unfolding number_in
returns-else-text-eq45 c = record { value = (promised c.requires (rw (ne_eqb _ _ c.if-text-eq45.false) c.magnitude-size.ensures)).0; finite = (promised c.requires (rw (ne_eqb _ _ c.if-text-eq45.false) c.magnitude-size.ensures)).1 }
