use Rattle.std.proofs.Common.{arith}
use Rattle.folder.specs.Decimals.{refused_line}
use Rattle.folder.proofs.lines.put_refusal.Goals as goal

pub returns : goal.returns
unfolding refused_line
returns c = (c.put_numbers.ensures.0, omega arith)
