-- `slots::has_path` meets its contract: a path of another length is another path. Assumes nothing.
use Rattle.slots.proofs.SlotLaws.{named_same, named_other}
use borrow.Author.Rules.{rules}
use Rattle.slots.proofs.has_path.Goals as goal

pub returns-then-s-at : goal.returns-then-s-at
returns-then-s-at c = named_same c.args.s.now c.args.path.now c.args.at c.if-s-at.true _ c.same_bytes.ensures

pub returns-else-s-at : goal.returns-else-s-at
returns-else-s-at c = named_other c.args.s.now c.args.path.now c.args.at c.requires c.if-s-at.false
