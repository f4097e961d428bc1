-- `ways::Way::after_part` meets its contract. Assumes nothing.
use borrow.Author.Rules.{rules}
use Rattle.ways.proofs.Way.after_part.Goals as goal

pub returns-in-No : goal.returns-in-No
returns-in-No c = rw c.in-No.is c.after_no.ensures

pub returns-in-Yes : goal.returns-in-Yes
returns-in-Yes c = rw c.in-Yes.is c.after_yes.ensures

pub returns-in-Missing : goal.returns-in-Missing
returns-in-Missing c = rw c.in-Missing.is c.after_missing.ensures
