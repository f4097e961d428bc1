-- `words::standing::ends_in` meets its contract: the bytes decide, and then the table, by the byte behind them. Assumes nothing.
use mathlib.Core.Path.{ap, sym, ◌∙◌}
use mathlib.Core.Bool.{not}
use Rattle.words.specs.Standing.{ends_in}
use Rattle.words.proofs.standing.ends_in.Goals as goal

pub returns-then-stands : goal.returns-then-stands
unfolding ends_in
returns-then-stands g c =
    rw (sym c.stands.ensures ∙ c.if-stands.true, c.told-bytes) (ap not c.is_of.ensures)

pub returns-else-stands : goal.returns-else-stands
unfolding ends_in
returns-else-stands g c = rw (sym c.stands.ensures ∙ c.if-stands.false) c.if-stands.false
