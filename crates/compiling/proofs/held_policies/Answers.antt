-- `compiling::held_policies` meets its contract: by what the readers tell of the table that they compare with, under the version that it records. Assumes nothing.
use Rattle.compiling.proofs.Outcomes.{as_complete, as_lost, too_long_held, fitting_held, lost_held, right_held, wrong_held}
use Rattle.compiling.specs.Outcome.{said}
use mathlib.Core.Path.{◌∙◌, sym}
use borrow.Author.Rules.{rules}
use Rattle.compiling.proofs.held_policies.Goals as goal

pub returns-then-text-gt-MOST_TEXT_BYTES : goal.returns-then-text-gt-MOST_TEXT_BYTES
returns-then-text-gt-MOST_TEXT_BYTES c = sym (too_long_held _ _ c.if-text-gt-MOST_TEXT_BYTES.true)

pub returns-in-Ok : goal.returns-in-Ok
unfolding said
returns-in-Ok c =
    right_held c.recorded-version.ensures (as_complete c.in-Ok.is c.read_all.ensures) c.if-whole.true
    ∙ sym (fitting_held _ _ c.if-text-gt-MOST_TEXT_BYTES.false)

pub returns-in_default : goal.returns-in_default
unfolding said
returns-in_default c =
    wrong_held c.recorded-version.ensures (as_complete c.in-Ok.is c.read_all.ensures) c.if-whole.false
    ∙ sym (fitting_held _ _ c.if-text-gt-MOST_TEXT_BYTES.false)

pub returns-in_default-2 : goal.returns-in_default-2
unfolding said
returns-in_default-2 c = lost_held _ (as_lost c.in_default.is c.read_all.ensures) ∙ sym (fitting_held _ _ c.if-text-gt-MOST_TEXT_BYTES.false)
