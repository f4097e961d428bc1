use Rattle.ask.proofs.LineLaws.{all_answered}
use Rattle.ask.proofs.print_cases.Goals as goal

pub returns : goal.returns
returns g c = all_answered _ c.loop-next.invariant.counted c.loop-next-test.false
