use Rattle.std.proofs.Common.{arith}
use Rattle.counts.proofs.TallyLaws.{tally_put}
use Rattle.counts.proofs.put_tally.Goals as goal

pub returns : goal.returns
returns c = (tally_put _ _ _ _ c.put_numbers-first.ensures.0 c.put_requests-requests.ensures.0 c.put_word-sums.ensures c.put_group.ensures.0, omega arith)
