-- `deciding::row::condition_holds` meets its contract: there is no condition, or it is evaluated. Assumes nothing.
use native.Mathlib.Omega.{arith}
use Rattle.deciding.proofs.Counting.{no_condition, by_condition, not_yes}
use Rattle.meaning.specs.Conditions.{is_yes}
use mathlib.Core.Path.{sym, ◌∙◌, ap}
use borrow.Author.Rules.{rules}
use Rattle.deciding.proofs.row.condition_holds.Goals as goal

pub returns-then-x-end : goal.returns-then-x-end
returns-then-x-end c = no_condition _ _ _ _ _ c.if-x-end.true

pub evaluate-v-requires : goal.evaluate-v-requires
evaluate-v-requires c = record { ready = c.requires.condition (let f = c.if-x-end.false in let e = c.requires.ends in omega arith) }

pub returns-in-Yes : goal.returns-in-Yes
returns-in-Yes c = by_condition _ _ _ _ _ c.if-x-end.false (ap is_yes (sym c.in-Yes.is ∙ c.evaluate-v.ensures))

pub returns-in_default : goal.returns-in_default
returns-in_default c = by_condition _ _ _ _ _ c.if-x-end.false (not_yes _ c.in_default.not-Yes ∙ ap is_yes c.evaluate-v.ensures)
