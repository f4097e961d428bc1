-- `ways::Way::come_back` meets its contract. Assumes nothing.
use mathlib.Core.Path.{refl}
use Rattle.ways.specs.Ways.{come_back}
use Rattle.ways.proofs.Way.come_back.Goals as goal

pub returns : goal.returns
unfolding come_back
returns c = refl
