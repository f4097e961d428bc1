-- `ways::settles` meets its contract. Assumes nothing.
use Rattle.meaning.specs.Conditions.{settles}
use borrow.Author.Rules.{rules}
use Rattle.ways.proofs.settles.Goals as goal

pub returns-in-First : goal.returns-in-First
unfolding settles
returns-in-First c = rw c.in-First.is

pub returns-in-Second : goal.returns-in-Second
unfolding settles
returns-in-Second c = rw c.in-Second.is
