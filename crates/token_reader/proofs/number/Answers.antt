-- `token_reader::number` meets its contract: the test decides `number_to` at the end of the whole part. Assumes nothing.
use mathlib.Core.Path.{sym, ◌∙◌}
use Rattle.tokens.specs.Tokens.{number_token}
use Rattle.token_reader.proofs.number.Goals as goal

pub returns-then-has_fraction : goal.returns-then-has_fraction
unfolding number_token
returns-then-has_fraction c =
    rw (← c.run_end-whole.ensures.place, sym c.has_fraction.ensures ∙ c.if-has_fraction.true, ← c.run_end-end.ensures.place)
    c.within.ensures

pub returns-else-has_fraction : goal.returns-else-has_fraction
unfolding number_token
returns-else-has_fraction c = rw (← c.run_end-whole.ensures.place, sym c.has_fraction.ensures ∙ c.if-has_fraction.false) c.within-else-has_fraction.ensures
