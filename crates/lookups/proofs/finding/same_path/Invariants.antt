-- `lookups::finding::same_path` meets its contract: the bytes left of the part are those left of the path exactly when all are. Assumes nothing.
use Rattle.std.proofs.Common.{◌≡◌, drop}
use Rattle.slices.specs.Same.{same}
use Rattle.slices.specs.Parts.{part}
use Rattle.tokens.specs.Blanks.{unblanked}
use Rattle.lookups.proofs.finding.same_path.Given as goal

abbrev pub invariant-loop-c : goal.invariant-loop-c
invariant-loop-c l = same l.rest (unblanked (drop l.c-index l.path)) ≡ same (part l.s l.at l.n) (unblanked l.path)
