-- `ways::Way::entered` meets its contract. Assumes nothing.
use mathlib.Core.Path.{refl}
use Rattle.ways.specs.Ways.{entered_at}
use Rattle.ways.proofs.Way.entered.Goals as goal

pub returns : goal.returns
unfolding entered_at
returns c = refl
