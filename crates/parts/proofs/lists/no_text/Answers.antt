-- `parts::lists::no_text` meets its contract: by the token's kind. Assumes nothing.
use borrow.Author.Tests.{ne_eqb}
use Rattle.grammar.specs.Parser.{no_text}
use Rattle.parts.proofs.lists.no_text.Goals as goal

pub returns-then-t-eq-STRING : goal.returns-then-t-eq-STRING
unfolding no_text
returns-then-t-eq-STRING c = rw c.if-t-eq-STRING.true

pub returns-else-t-eq-STRING : goal.returns-else-t-eq-STRING
unfolding no_text
returns-else-t-eq-STRING c = rw (ne_eqb _ _ c.if-t-eq-STRING.false)
