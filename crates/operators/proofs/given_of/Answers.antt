-- `operators::given_of` meets its contract. Assumes nothing.
use borrow.Author.Rules.{rules}
use Rattle.operators.proofs.given_of.Goals as goal

pub returns-then-met : goal.returns-then-met
returns-then-met c = rw c.if-met.true c.told_of.ensures

pub returns : goal.returns
returns c = rw c.if-met.false
