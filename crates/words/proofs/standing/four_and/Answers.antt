-- `words::standing::four_and` meets its contract: one part after the other. Assumes nothing.
use mathlib.Core.Path.{sym, ◌∙◌}
use Rattle.words.proofs.StandingLaws.{ends_parts}
use Rattle.words.proofs.standing.four_and.Goals as goal

pub returns-then-stands : goal.returns-then-stands
returns-then-stands g c =
    let args = c.args in
    rw (ends_parts args.four.now args.rest.now args.text.now args.at, sym c.stands.ensures ∙ c.if-stands.true, c.told-four) c.ends_in.ensures

pub returns-else-stands : goal.returns-else-stands
returns-else-stands g c =
    let args = c.args in
    rw (ends_parts args.four.now args.rest.now args.text.now args.at, sym c.stands.ensures ∙ c.if-stands.false) c.if-stands.false
