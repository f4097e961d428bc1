-- `parts::paths::call_kind` meets its contract: the tests are those of `call_of`. Assumes nothing.
use mathlib.Core.Bool.{and-false}
use native.Mathlib.Omega.{arith}
use borrow.Author.Tests.{ne_eqb}
use Rattle.parts.specs.Names.{call_of}
use Rattle.parts.proofs.paths.call_kind.Goals as goal

pub returns-in-217 : goal.returns-in-217
unfolding call_of
returns-in-217 c = rw (c.in-217.is, c.if-left.true)

pub returns-in-218 : goal.returns-in-218
unfolding call_of
returns-in-218 c = rw (c.in-218.is, c.if-left-2.true)

pub returns-in_default : goal.returns-in_default
unfolding call_of
returns-in_default c = rw c.if-left.false

pub returns-in_default-2 : goal.returns-in_default-2
unfolding call_of
returns-in_default-2 c = rw c.if-left-2.false

pub returns-in_default-3 : goal.returns-in_default-3
unfolding call_of
returns-in_default-3 c = rw (ne_eqb c.args.word 217 (λ e. omega arith), ne_eqb c.args.word 218 (λ e. omega arith), and-false c.args.left)
