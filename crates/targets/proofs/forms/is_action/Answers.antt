-- `targets::forms::is_action` meets its contract: the tests are those of the definition. Assumes nothing.
use mathlib.Core.Path.{refl}
use Rattle.meaning.specs.Targets.{is_action}
use Rattle.targets.proofs.forms.is_action.Goals as goal

pub returns : goal.returns
unfolding is_action
returns c = refl
