-- `tokens::classes::entry_of` meets its contract: the table is that of the specification. Assumes nothing.
use Rattle.tokens.proofs.ClassLaws.{entry_at}
use borrow.Author.Rules.{rules}
use Rattle.tokens.proofs.classes.entry_of.Goals as goal

pub returns : goal.returns
returns c = entry_at c.args.b (search rules)
