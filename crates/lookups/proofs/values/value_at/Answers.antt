-- `lookups::values::value_at` meets its contract. Assumes nothing.
use borrow.Author.Rules.{rules}
use mathlib.Core.Path.{◌∙◌}
use Rattle.lookups.proofs.StepLaws.{past_the_end}
use Rattle.lookups.proofs.values.value_at.Goals as goal

pub value_from-requires : goal.value_from-requires
value_from-requires c = c.requires c.if-k-s.true

pub returns-then-k-s : goal.returns-then-k-s
returns-then-k-s c = c.value_from.ensures

pub returns-else-k-s : goal.returns-else-k-s
returns-else-k-s c = c.absent_value.ensures ∙ past_the_end _ _ c.if-k-s.false
