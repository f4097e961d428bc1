-- `patterns::admits` meets its contract. Assumes nothing.
use Rattle.slices.proofs.Decided.{no_to}
use Rattle.patterns.proofs.Laws.{mark_admits, same_admits, only_itself}
use Rattle.patterns.proofs.admits.Goals as goal

pub returns-then-x-c : goal.returns-then-x-c
returns-then-x-c c = rw (← c.if-x-c.true) (same_admits _)

pub returns-then-x-eq63 : goal.returns-then-x-eq63
returns-then-x-eq63 c = rw c.if-x-eq63.true (mark_admits _)

pub returns : goal.returns
returns c = no_to (λ a. c.if-x-c.false (only_itself c.if-x-eq63.false a))
