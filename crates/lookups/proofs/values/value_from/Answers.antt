-- `lookups::values::value_from` meets its contract. Assumes nothing.
use borrow.Author.Rules.{rules}
use mathlib.Core.Path.{◌∙◌}
use Rattle.lookups.proofs.StepLaws.{value_absent, value_is}
use Rattle.lookups.proofs.values.value_from.Goals as goal

pub returns-then-kind-eq-ABSENT : goal.returns-then-kind-eq-ABSENT
returns-then-kind-eq-ABSENT c = c.absent_value.ensures ∙ value_absent _ _ c.if-kind-eq-ABSENT.true

pub number_of-number-requires : goal.number_of-number-requires
number_of-number-requires c = c.requires.whole c.if-kind-eq-ABSENT.false

pub returns : goal.returns
returns c = value_is _ _ _ c.if-kind-eq-ABSENT.false c.number_of-number.ensures
