-- `kept::satisfied_where` meets its contract: the condition is asked for only where the target matches. Assumes nothing.
use mathlib.Core.Path.{◌≡◌, ◌∙◌}
use mathlib.Core.Bool.{true, false}
use Rattle.kept.proofs.satisfied_where.Goals as goal

pub returns-then-aimed : goal.returns-then-aimed
returns-then-aimed c =
    let e : c.args.aimed ≡ true = c.if-aimed.true in
    c.condition_holds.ensures ∙ rw e

pub returns-else-aimed : goal.returns-else-aimed
returns-else-aimed c = let e : c.args.aimed ≡ false = c.if-aimed.false in rw e
