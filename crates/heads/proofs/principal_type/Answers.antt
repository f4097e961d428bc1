-- `heads::principal_type` meets its contract: the callees' results are the tests of `type_among`. Assumes nothing.
use borrow.Author.Rules.{rules}
use Rattle.grammar.specs.Rules.{principal_types, type_among}
use Rattle.heads.proofs.principal_type.Goals as goal

pub returns : goal.returns
unfolding principal_types type_among
returns c = rw (c.number_if.ensures, c.number_if-n.ensures)
