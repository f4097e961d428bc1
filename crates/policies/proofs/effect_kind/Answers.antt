-- `policies::effect_kind` meets its contract: by the effect. Assumes nothing.
use Rattle.table.specs.Entries.{effect_kind}
use Rattle.policies.proofs.effect_kind.Goals as goal

pub returns-then-permits : goal.returns-then-permits
unfolding effect_kind
returns-then-permits c = rw c.if-permits.true

pub returns-else-permits : goal.returns-else-permits
unfolding effect_kind
returns-else-permits c = rw c.if-permits.false
