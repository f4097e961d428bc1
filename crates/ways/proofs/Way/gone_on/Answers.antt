-- `ways::Way::gone_on` meets its contract. Assumes nothing.
use mathlib.Core.Path.{refl}
use Rattle.ways.specs.Ways.{gone_on}
use Rattle.ways.proofs.Way.gone_on.Goals as goal

pub returns : goal.returns
unfolding gone_on
returns c = refl
