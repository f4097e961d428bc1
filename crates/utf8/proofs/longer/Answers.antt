-- `utf8::longer` meets its contract: the test of what follows decides the width. Assumes nothing.
use Rattle.slices.proofs.Parts.{tail_lent}
use Rattle.utf8.proofs.Places.{whole, cut}
use Rattle.utf8.proofs.longer.Goals as goal

pub returns-then-is_followed : goal.returns-then-is_followed
returns-then-is_followed c = whole _ _ _ c.requires c.size_by_first-k.ensures (simp tail_lent at c.is_followed.ensures) c.if-is_followed.true

pub returns-else-is_followed : goal.returns-else-is_followed
returns-else-is_followed c = cut _ _ _ c.requires c.size_by_first-k.ensures (simp tail_lent at c.is_followed.ensures) c.if-is_followed.false
