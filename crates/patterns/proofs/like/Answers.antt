-- `patterns::like` meets its contract: ASCII is UTF-8. Assumes nothing.
use Rattle.utf8.proofs.Counting.{ascii_spells}
use Rattle.patterns.proofs.like.Goals as goal

pub like_text-requires : goal.like_text-requires
like_text-requires c =
    let a = c.is_ascii.ensures.sound c.if-is_ascii.true in
    (c.requires, record { numbers = c.args.string.now; says = ascii_spells a }, λ _. a)

pub returns-then-is_ascii : goal.returns-then-is_ascii
returns-then-is_ascii c =
    let a = c.is_ascii.ensures.sound c.if-is_ascii.true in
    record { sound = λ t. (record { numbers = c.args.string.now; says = ascii_spells a }, c.like_text.ensures.sound t); complete = λ h. c.like_text.ensures.complete h.1 }
