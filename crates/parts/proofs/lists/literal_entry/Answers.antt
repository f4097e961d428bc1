-- `parts::lists::literal_entry` meets its contract: by the token's kind. Assumes nothing.
use native.Mathlib.Omega.{arith}
use borrow.Author.Tests.{ne_eqb}
use Rattle.grammar.specs.Rules.{literal_of}
use Rattle.table.specs.Entries.{literal_entry}
use Rattle.parts.proofs.lists.literal_entry.Goals as goal

pub returns-in-34 : goal.returns-in-34
unfolding literal_of literal_entry
returns-in-34 c = rw c.in-34.is

pub returns-in-48 : goal.returns-in-48
unfolding literal_of literal_entry
returns-in-48 c = rw c.in-48.is

pub returns-in-212 : goal.returns-in-212
unfolding literal_of literal_entry
returns-in-212 c = rw c.in-212.is

pub returns-in_default : goal.returns-in_default
unfolding literal_of literal_entry
returns-in_default c = rw (ne_eqb c.args.t.kind 34 (λ e. omega arith), ne_eqb c.args.t.kind 48 (λ e. omega arith), ne_eqb c.args.t.kind 212 (λ e. omega arith))
