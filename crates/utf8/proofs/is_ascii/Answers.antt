-- `utf8::is_ascii` meets its contract: it has the words of std for it. Assumes nothing.
use Rattle.utf8.proofs.Fours.{by_bytes}
use Rattle.utf8.proofs.is_ascii.Goals as goal

pub returns : goal.returns
returns c = by_bytes _ _ c.is_ascii.ensures.cases
