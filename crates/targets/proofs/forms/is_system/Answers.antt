-- `targets::forms::is_system` meets its contract: the callee decides equality, and so does `same`. Assumes nothing.
use Rattle.slices.proofs.Equal.{same_is}
use borrow.Author.Rules.{rules}
use Rattle.targets.proofs.forms.is_system.Goals as goal

pub returns : goal.returns
returns c = same_is _ _ c.same.ensures
