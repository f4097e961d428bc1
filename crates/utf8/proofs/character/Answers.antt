-- `utf8::character` meets its contract. Assumes nothing.
use Rattle.utf8.proofs.Places.{nothing_there, ascii}
use Rattle.utf8.proofs.character.Goals as goal

pub returns-then-s-at : goal.returns-then-s-at
returns-then-s-at c = nothing_there _ _ c.if-s-at.true

pub returns-then-s-at-le127 : goal.returns-then-s-at-le127
returns-then-s-at-le127 c = ascii _ _ c.if-s-at.false c.if-s-at-le127.true

pub returns : goal.returns
returns c = c.longer.ensures
