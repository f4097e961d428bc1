-- `targets::forms::subject_type` meets its contract: by the callee, for the principal types. Assumes nothing.
use Rattle.parts.specs.Names.{types_of}
use borrow.Author.Rules.{rules}
use Rattle.targets.proofs.forms.subject_type.Goals as goal

pub returns : goal.returns
unfolding types_of
returns c = c.typed.ensures
