-- `parts::lists::is_sort` meets its contract: by the flag. Assumes nothing.
use borrow.Author.Rules.{rules}
use Rattle.parts.specs.Names.{sort_of}
use Rattle.parts.proofs.lists.is_sort.Goals as goal

pub returns-then-strings : goal.returns-then-strings
unfolding sort_of
returns-then-strings c = rw c.if-strings.true

pub returns-else-strings : goal.returns-else-strings
unfolding sort_of
returns-else-strings c = rw (c.if-strings.false, c.is_literal.ensures)
