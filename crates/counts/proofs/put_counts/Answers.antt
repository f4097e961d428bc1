use Rattle.std.proofs.Common.{refl, arith}
use Rattle.counts.proofs.TallyLaws.{no_count, count_on}
use Rattle.counts.proofs.put_counts.Goals as goal

pub loop-n-init : goal.loop-n-init
loop-n-init c = record { put = no_count _ _ _ _ _; room = omega arith }

pub loop-n-preserved : goal.loop-n-preserved
loop-n-preserved c = record {
  put = count_on _ _ _ _ c.loop-n.invariant.put refl c.put_numbers-filled.ensures.0;
  room = omega arith;
}
