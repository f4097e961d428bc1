-- `patterns::next_character` meets its contract. Assumes nothing.
use Rattle.patterns.proofs.Texts.{ascii_step}
use Rattle.utf8.proofs.Counting.{ascii_byte}
use Rattle.patterns.proofs.next_character.Goals as goal

pub returns-else-wide : goal.returns-else-wide
returns-else-wide c = ascii_step _ _ c.requires.0 c.requires.1 (ascii_byte _ _ (c.requires.2 c.if-wide.false) c.requires.0)
