-- `parts::paths::root_kind` meets its contract: by the root. Assumes nothing.
use native.Mathlib.Omega.{arith}
use borrow.Author.Tests.{ne_eqb}
use Rattle.grammar.specs.Rules.{root_of}
use Rattle.parts.proofs.paths.root_kind.Goals as goal

pub returns-in-204 : goal.returns-in-204
unfolding root_of
returns-in-204 c = rw c.in-204.is

pub returns-in-205 : goal.returns-in-205
unfolding root_of
returns-in-205 c = rw c.in-205.is

pub returns-in-206 : goal.returns-in-206
unfolding root_of
returns-in-206 c = rw c.in-206.is

pub returns-in_default : goal.returns-in_default
unfolding root_of
returns-in_default c = rw (ne_eqb c.args.root 204 (λ e. omega arith), ne_eqb c.args.root 205 (λ e. omega arith), ne_eqb c.args.root 206 (λ e. omega arith))
