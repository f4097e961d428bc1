-- `lock_reader::actions::action_at` meets its contract: a string, or none. Assumes nothing.
use native.Mathlib.Omega.{arith}
use Rattle.locks.proofs.EntryLaws.{action_past, action_cut, action_bad, action_good}
use mathlib.Core.Path.{sym, ◌∙◌}
use borrow.Author.Rules.{rules}
use Rattle.lock_reader.proofs.actions.action_at.Goals as goal

pub returns-then-actions-at : goal.returns-then-actions-at
returns-then-actions-at c = action_past _ _ c.if-actions-at.true

pub overflow_cast-n : goal.overflow_cast-n
overflow_cast-n c = omega (arith, c.type_inv.actions c.args.at)

pub returns-then-actions-start : goal.returns-then-actions-start
returns-then-actions-start c = action_cut _ _ (omega arith) (omega arith)

pub returns-then-is_string : goal.returns-then-is_string
returns-then-is_string c = action_good _ _ (omega arith) (omega arith) (sym c.is_string.ensures ∙ c.if-is_string.true)

pub returns-else-is_string : goal.returns-else-is_string
returns-else-is_string c = action_bad _ _ (omega arith) (omega arith) (sym c.is_string.ensures ∙ c.if-is_string.false)
