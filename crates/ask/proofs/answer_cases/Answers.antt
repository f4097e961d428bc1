use Rattle.std.proofs.Common.{arith}
use Rattle.ask.proofs.LineLaws.{none_yet, one_more}
use Rattle.ask.proofs.answer_cases.Goals as goal

pub loop-next-init : goal.loop-next-init
loop-next-init c = record { so_far = none_yet _ _ _ _ _ (omega arith); room = omega arith }

pub loop-next-preserved : goal.loop-next-preserved
loop-next-preserved c = record {
  so_far = one_more c.loop-next.invariant.so_far c.loop-next-test.true c.answer_case-step.ensures (omega (arith, c.loop-next.invariant.so_far.inside));
  room = omega (arith, c.answer_case-step.ensures.short);
}
