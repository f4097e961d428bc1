use Rattle.std.proofs.Common.{arith}
use Rattle.ask.proofs.LineLaws.{refused_told, decided_told}
use Rattle.ask.proofs.put_decided.Goals as goal

pub returns-then-d-gt0 : goal.returns-then-d-gt0
returns-then-d-gt0 c = (refused_told _ c.if-d-gt0.true c.put_refusal.ensures.0, c.put_refusal.ensures.1)

pub returns : goal.returns
returns c = (decided_told _ c.if-d-gt0.false c.put_numbers.ensures.0, omega arith)
