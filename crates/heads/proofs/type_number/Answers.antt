-- `heads::type_number` meets its contract: by the flag. Assumes nothing.
use borrow.Author.Rules.{rules}
use Rattle.parts.specs.Names.{types_of}
use Rattle.heads.proofs.type_number.Goals as goal

pub returns-then-resource : goal.returns-then-resource
unfolding types_of
returns-then-resource c = rw c.if-resource.true c.resource_type.ensures

pub returns-else-resource : goal.returns-else-resource
unfolding types_of
returns-else-resource c = rw c.if-resource.false c.principal_type.ensures
