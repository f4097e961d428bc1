use Rattle.std.proofs.Common.{arith}
use Rattle.counts.proofs.TallyLaws.{group_put}
use Rattle.counts.proofs.put_group.Goals as goal

pub returns : goal.returns
returns c = (group_put _ _ _ c.put_counts-outcomes.ensures.0 c.put_counts.ensures.0, omega arith)
