-- `compiling::recognise` meets its contract: by the sizes, and by what the readers tell. Assumes nothing.
use Rattle.compiling.proofs.Outcomes.{as_complete, as_lost, too_long, no_room, fitting, turned_found, complete_found}
use Rattle.compiling.specs.Outcome.{said}
use mathlib.Core.Path.{◌∙◌, sym}
use borrow.Author.Rules.{rules}
use Rattle.compiling.proofs.recognise.Goals as goal

pub returns-then-text-gt-MOST_TEXT_BYTES : goal.returns-then-text-gt-MOST_TEXT_BYTES
returns-then-text-gt-MOST_TEXT_BYTES c = sym (too_long _ _ _ c.if-text-gt-MOST_TEXT_BYTES.true)

pub returns-then-room-text : goal.returns-then-room-text
returns-then-room-text c = sym (no_room _ _ _ c.if-text-gt-MOST_TEXT_BYTES.false c.if-room-text.true)

pub returns-in-Err : goal.returns-in-Err
unfolding said
returns-in-Err c = turned_found _ (as_lost c.in-Err.is c.read_all.ensures) ∙ sym (fitting _ _ _ c.if-text-gt-MOST_TEXT_BYTES.false c.if-room-text.false)

pub returns-in-Ok : goal.returns-in-Ok
unfolding said
returns-in-Ok c = complete_found (as_complete c.in-Ok.is c.read_all.ensures) ∙ sym (fitting _ _ _ c.if-text-gt-MOST_TEXT_BYTES.false c.if-room-text.false)
