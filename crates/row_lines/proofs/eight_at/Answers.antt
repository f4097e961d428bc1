use Rattle.std.proofs.Common.{arith}
use Rattle.row_lines.proofs.RowLaws.{eight_there}
use Rattle.row_lines.proofs.eight_at.Goals as goal

pub returns : goal.returns
returns c = omega (arith, eight_there c.args.page.now c.args.at c.four_at-low.ensures c.four_at-high.ensures)
