-- `leaves::likes::is_pattern` meets its contract: the invariant `Seen` says what the bytes so far have. Assumes nothing.
use Rattle.leaves.proofs.Wildcards.{Seen}
use Rattle.leaves.proofs.likes.is_pattern.Given as goal

abbrev pub invariant-loop-b : goal.invariant-loop-b
invariant-loop-b l = Seen l.b-items l.wildcards l.star l.b-index
