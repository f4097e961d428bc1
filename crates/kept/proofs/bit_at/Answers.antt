-- `kept::bit_at` meets its contract: no bit is lost. Assumes nothing.
use borrow.Author.Rules.{rules}
use Rattle.kept.proofs.Noting.{one_shifted}
use Rattle.kept.proofs.bit_at.Goals as goal

pub returns : goal.returns
returns c = one_shifted c.args.i c.requires
