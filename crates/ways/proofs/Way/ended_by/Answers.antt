-- `ways::Way::ended_by` meets its contract. Assumes nothing.
use mathlib.Core.Path.{refl}
use Rattle.ways.specs.Ways.{ended_by}
use Rattle.ways.proofs.Way.ended_by.Goals as goal

pub returns : goal.returns
unfolding ended_by
returns c = refl
