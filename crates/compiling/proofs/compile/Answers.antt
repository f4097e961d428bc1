-- `compiling::compile` meets its contract: by the version that the number names. Assumes nothing.
use native.Mathlib.Omega.{arith}
use mathlib.Core.Path.{ap}
use borrow.Author.Rules.{rules}
use borrow.Author.Tests.{ne_eqb}
use Rattle.std.specs.Prelude.{Err}
use Rattle.grammar.specs.Versions.{if_version}
use Rattle.compiling.specs.Outcome.{compiled_of, table_after}
use Rattle.compiling.specs.declared.Refused.{Refused}
use Rattle.compiling.proofs.compile.Goals as goal

pub returns-in-1 : goal.returns-in-1
unfolding compiled_of table_after if_version
returns-in-1 c = let k = c.compile_under.ensures in record { answered = rw c.in-1.is k.0; table = rw c.in-1.is k.1 }

pub returns-in-2 : goal.returns-in-2
unfolding compiled_of table_after if_version
returns-in-2 c = let k = c.compile_under-in-2.ensures in record { answered = rw c.in-2.is k.0; table = rw c.in-2.is k.1 }

pub returns-in_default : goal.returns-in_default
unfolding compiled_of table_after if_version
returns-in_default c =
    let number = c.args.number in
    let n = ne_eqb number 1 (omega arith) in
    let m = ne_eqb number 2 (omega arith) in
    record { answered = rw (n, m) (ap (λ (r : Refused). Err r) c.unplaced.ensures); table = rw (n, m) }
