-- `lookups::finding::is_blank` meets its contract. Assumes nothing.
use native.Mathlib.Omega.{arith}
use Rattle.lookups.proofs.FindLaws.{blank_is}
use Rattle.lookups.proofs.finding.is_blank.Goals as goal

pub returns : goal.returns
returns c = blank_is _ (omega arith)
