-- `parts::paths::is_admitted` meets its contract: action's names differ from the others'. Assumes nothing.
use mathlib.Core.Path.{sym}
use borrow.Author.Rules.{rules}
use Rattle.slices.proofs.Equal.{same_is}
use Rattle.grammar.specs.Rules.{root_of, admitted}
use Rattle.parts.proofs.Roots.{other_admitted}
use Rattle.parts.proofs.paths.is_admitted.Goals as goal

pub returns-then-root-eq-ACTION : goal.returns-then-root-eq-ACTION
unfolding admitted root_of
returns-then-root-eq-ACTION c = rw (c.if-root-eq-ACTION.true, same_is _ _ c.same-name.ensures)

pub returns : goal.returns
returns c = sym (other_admitted _ c.if-root-eq-ACTION.false _ _)
