use Rattle.std.proofs.Common.{arith}
use Rattle.ask.proofs.LineLaws.{refusal_told, compiled_told}
use Rattle.ask.proofs.put_compiled.Goals as goal

pub returns-then-c-gt0 : goal.returns-then-c-gt0
returns-then-c-gt0 c = (refusal_told _ c.if-c-gt0.true c.put_refusal.ensures.0, c.put_refusal.ensures.1)

pub returns : goal.returns
returns c = (compiled_told _ c.if-c-gt0.false c.put_numbers.ensures.0, omega arith)
