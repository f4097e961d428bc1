-- `lookups::finding::base_value` meets its contract. Assumes nothing.
use borrow.Author.Rules.{rules}
use mathlib.Core.Path.{◌∙◌}
use Rattle.lookups.proofs.finding.base_value.Goals as goal

pub value_at-requires : goal.value_at-requires
value_at-requires c = c.base_place-k.ensures.valued

pub returns : goal.returns
returns c = c.value_at.ensures ∙ c.base_place-k.ensures.is
