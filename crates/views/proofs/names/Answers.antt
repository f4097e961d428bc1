-- `views::names` meets its contract. Assumes nothing.
use borrow.Author.Rules.{rules}
use mathlib.Core.Path.{◌∙◌}
use Rattle.views.proofs.ViewLaws.{names_it, names_other}
use Rattle.views.proofs.names.Goals as goal

pub returns-then-s-head : goal.returns-then-s-head
returns-then-s-head c = c.same_path.ensures ∙ names_it _ _ _ c.if-s-head.true

pub returns-else-s-head : goal.returns-else-s-head
returns-else-s-head c = names_other _ _ _ c.if-s-head.false
