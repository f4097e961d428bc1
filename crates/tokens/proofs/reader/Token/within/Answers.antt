-- `tokens::reader::Token::within` meets its contract: the test decides `sized`. Assumes nothing.
use borrow.Author.Tests.{le-leb, lt-leb}
use Rattle.tokens.specs.Tokens.{sized}
use Rattle.tokens.proofs.reader.Token.within.Goals as goal

pub returns-then-size-most : goal.returns-then-size-most
unfolding sized
returns-then-size-most c = simp (le-leb _ _ c.if-size-most.true)

pub returns-else-size-most : goal.returns-else-size-most
unfolding sized
returns-else-size-most c = simp (lt-leb _ _ c.if-size-most.false)
