-- `numbers::comparing::compares` meets its contract. Assumes nothing.
use borrow.Author.Rules.{rules}
use Rattle.numbers.proofs.comparing.compares.Goals as goal

pub returns-in-Less : goal.returns-in-Less
returns-in-Less c = rw c.in-Less.is

pub returns-in-AtMost : goal.returns-in-AtMost
returns-in-AtMost c = rw c.in-AtMost.is

pub returns-in-More : goal.returns-in-More
returns-in-More c = rw c.in-More.is

pub returns-in-AtLeast : goal.returns-in-AtLeast
returns-in-AtLeast c = rw c.in-AtLeast.is

pub returns-in-Same : goal.returns-in-Same
returns-in-Same c = rw c.in-Same.is

pub returns-in-Other : goal.returns-in-Other
returns-in-Other c = rw c.in-Other.is
