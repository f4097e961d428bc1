-- `leaves::likes::is_long` meets its contract: few bytes, or the invariant `Counted` says how many of them so far began a character. Assumes nothing.
use Rattle.leaves.proofs.Counted.{Counted}
use Rattle.leaves.proofs.likes.is_long.Given as goal

abbrev pub invariant-loop-b : goal.invariant-loop-b
invariant-loop-b l = Counted l.b-items l.characters l.b-index
