-- `desk::decided` meets its contract: by the decision. Assumes nothing.
use borrow.Author.Rules.{rules}
use Rattle.meaning.specs.Decisions.{outcome_of, policy_of}
use Rattle.deciding.specs.Answers.{decide_said}
use Rattle.desk.proofs.decided.Goals as goal

pub returns-in-Allowed : goal.returns-in-Allowed
unfolding decide_said outcome_of policy_of
returns-in-Allowed c = simp c.in-Allowed.is

pub returns-in-Forbidden : goal.returns-in-Forbidden
unfolding decide_said outcome_of policy_of
returns-in-Forbidden c = simp c.in-Forbidden.is

pub returns-in-Nothing : goal.returns-in-Nothing
unfolding decide_said outcome_of policy_of
returns-in-Nothing c = simp c.in-Nothing.is

pub returns-in-System : goal.returns-in-System
unfolding decide_said outcome_of policy_of
returns-in-System c = simp c.in-System.is
