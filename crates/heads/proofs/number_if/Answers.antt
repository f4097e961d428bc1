-- `heads::number_if` meets its contract: the callee decides equality, and so does `same`. Assumes nothing.
use mathlib.Core.Path.{sym, ◌∙◌}
use borrow.Author.Rules.{rules}
use Rattle.slices.proofs.Equal.{same_is}
use Rattle.heads.proofs.number_if.Goals as goal

pub returns-then-same : goal.returns-then-same
returns-then-same c = simp (sym (same_is _ _ c.same.ensures) ∙ c.if-same.true)

pub returns-else-same : goal.returns-else-same
returns-else-same c = simp (sym (same_is _ _ c.same.ensures) ∙ c.if-same.false)
