-- `parts::paths::no_name` meets its contract: action's names differ from the others'. Assumes nothing.
use mathlib.Core.Path.{◌∙◌, sym}
use borrow.Author.Tests.{eq-eqb, ne_eqb, le-leb, lt-leb}
use Rattle.grammar.specs.Parser.{no_name}
use Rattle.grammar.specs.Rules.{root_of}
use Rattle.parts.proofs.Roots.{other_name, no_name_lem}
use Rattle.parts.proofs.paths.no_name.Goals as goal

pub returns-then-root-eq-ACTION : goal.returns-then-root-eq-ACTION
unfolding no_name root_of
returns-then-root-eq-ACTION c = rw (c.if-root-eq-ACTION.true, c.if-t-eq-NAME.true)

pub returns-else-root-eq-ACTION : goal.returns-else-root-eq-ACTION
returns-else-root-eq-ACTION c = sym (other_name _ c.if-root-eq-ACTION.false _ (eq-eqb _ _ c.if-t-eq-NAME.true))

pub returns-then-t-ge-PERMIT : goal.returns-then-t-ge-PERMIT
returns-then-t-ge-PERMIT c = sym (no_name_lem _ _ (ne_eqb _ _ c.if-t-eq-NAME.false) ∙ rw (le-leb _ _ c.if-t-ge-PERMIT.true))

pub returns-else-t-ge-PERMIT : goal.returns-else-t-ge-PERMIT
returns-else-t-ge-PERMIT c = sym (no_name_lem _ _ (ne_eqb _ _ c.if-t-eq-NAME.false) ∙ rw (lt-leb _ _ c.if-t-ge-PERMIT.false))
