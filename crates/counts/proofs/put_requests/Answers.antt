use Rattle.std.proofs.Common.{arith}
use Rattle.counts.proofs.TallyLaws.{no_request, request_on}
use Rattle.counts.proofs.put_requests.Goals as goal

pub loop-k-init : goal.loop-k-init
loop-k-init c = record { put = no_request _ _ _ _; room = omega arith }

pub loop-k-preserved : goal.loop-k-preserved
loop-k-preserved c = record {
  put = request_on _ _ _ c.loop-k.invariant.put c.put_numbers-heading.ensures.0 c.put_group-filled.ensures.0;
  room = omega arith;
}
