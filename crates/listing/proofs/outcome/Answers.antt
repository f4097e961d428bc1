-- `listing::outcome` meets its contract: by the decision. Assumes nothing.
use Rattle.meaning.specs.Decisions.{outcome_of}
use borrow.Author.Rules.{rules}
use Rattle.listing.proofs.outcome.Goals as goal

pub returns-in-Allowed : goal.returns-in-Allowed
unfolding outcome_of
returns-in-Allowed c = simp c.in-Allowed.is

pub returns-in-Forbidden : goal.returns-in-Forbidden
unfolding outcome_of
returns-in-Forbidden c = simp c.in-Forbidden.is

pub returns-in-Nothing : goal.returns-in-Nothing
unfolding outcome_of
returns-in-Nothing c = simp c.in-Nothing.is

pub returns-in-System : goal.returns-in-System
unfolding outcome_of
returns-in-System c = simp c.in-System.is
