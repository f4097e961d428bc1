-- `desk::desk_lookup` meets its contract: each arm is a case of what document 01 says. Assumes nothing.
use borrow.Author.Rules.{rules}
use mathlib.Core.Path.{sym, ap, ◌∙◌}
use Rattle.lookups.specs.Lookups.{lookup_said}
use Rattle.desk.specs.Answers.{found_as, lookup_says}
use Rattle.desk.proofs.desk_lookup.Goals as goal

pub returns-in-Ok : goal.returns-in-Ok
unfolding lookup_says
returns-in-Ok c = ap (λ a. found_as (lookup_said a)) (sym c.in-Ok.is ∙ c.lookup.ensures)

pub returns-in-Err : goal.returns-in-Err
unfolding lookup_says
returns-in-Err c = ap (λ a. found_as (lookup_said a)) (sym c.in-Err.is ∙ c.lookup.ensures)
