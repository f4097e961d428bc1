-- `desk::desk_decide` meets its contract: each arm is a case of what document 01 says. Assumes nothing.
use borrow.Author.Rules.{rules}
use mathlib.Core.Path.{sym, ap, ◌∙◌}
use Rattle.deciding.specs.Answers.{decide_said}
use Rattle.desk.specs.Answers.{decided_as, decide_says}
use Rattle.desk.proofs.desk_decide.Goals as goal

pub returns-in-Ok : goal.returns-in-Ok
unfolding decide_says
returns-in-Ok c = c.decided.ensures ∙ ap (λ a. decided_as (decide_said a)) (sym c.in-Ok.is ∙ c.decide.ensures)

pub returns-in-Err : goal.returns-in-Err
unfolding decide_says decide_said
returns-in-Err c = ap (λ a. decided_as (decide_said a)) (sym c.in-Err.is ∙ c.decide.ensures)
