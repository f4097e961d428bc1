-- `parts::answers::turned_away` meets its contract: the three cases of `turned_away`. Assumes nothing.
use native.Mathlib.Omega.{arith}
use borrow.Author.Rules.{rules}
use borrow.Author.Tests.{eq-eqb, ne_eqb, lt-ltb, le-ltb}
use Rattle.parts.specs.Answers.{turned_away}
use Rattle.parts.proofs.answers.turned_away.Goals as goal
use Rattle.parts.proofs.answers.turned_away.Goals.{then-t-le-TOO_LONG, else-t-le-TOO_LONG}

pub returns-then-t-eq-END_OF_TEXT : goal.returns-then-t-eq-END_OF_TEXT
unfolding turned_away
returns-then-t-eq-END_OF_TEXT c = rw (eq-eqb _ _ c.if-t-eq-END_OF_TEXT.true)

pub returns : goal.returns
unfolding turned_away
returns c = rw (c.saturating_sub.ensures, ne_eqb _ _ c.if-t-eq-END_OF_TEXT.false) (elim c.if-t-le-TOO_LONG.branch [
  | then-t-le-TOO_LONG w ↦ rw (w.result-is, lt-ltb c.args.t.kind 7 (omega (arith, w.if-t-le-TOO_LONG.true)))
  | else-t-le-TOO_LONG w ↦ rw (w.result-is, le-ltb c.args.t.kind 7 (omega (arith, w.if-t-le-TOO_LONG.false)))
])
