-- `request_lines::line_after` meets its contract: where the bytes end, none are left. Assumes nothing.
use borrow.Author.Rules.{rules}
use Rattle.request_lines.proofs.LineLaws.{none_left}
use Rattle.request_lines.proofs.line_after.Goals as goal

pub returns-else-end-s : goal.returns-else-end-s
returns-else-end-s c = none_left (search rules) (search rules)
