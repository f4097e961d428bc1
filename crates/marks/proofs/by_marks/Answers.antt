-- `marks::by_marks` meets its contract: the satisfied permits are in both marks, the satisfied forbids are the others. Assumes nothing.
use mathlib.Core.Path.{◌∙◌}
use borrow.Author.Rules.{rules}
use lib.Bits.{and_le_l}
use Rattle.marks.proofs.ByMarks.{marks_decide}
use Rattle.marks.proofs.by_marks.Goals as goal

pub overflow_sub-forbidding : goal.overflow_sub-forbidding
overflow_sub-forbidding c = and_le_l c.args.mark c.args.permits

pub returns : goal.returns
returns c = λ terms q ps few m p. c.by_numbers.ensures ∙ marks_decide terms q ps few m p c.lowest-forbid.ensures c.lowest-permit.ensures
