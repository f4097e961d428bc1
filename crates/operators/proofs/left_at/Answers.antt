-- `operators::left_at` meets its contract. Assumes nothing.
use mathlib.Core.Path.{sym}
use native.Mathlib.Omega.{arith}
use borrow.Author.Tests.{ne_eqb}
use Rattle.operators.proofs.FlatLaws.{left_liked, left_listed, three_before}
use Rattle.operators.proofs.left_at.Goals as goal

pub overflow_sub-result : goal.overflow_sub-result
overflow_sub-result c = omega (arith, c.requires.room.like c.if-kind-eq-LIKE.true)

pub returns-then-kind-eq-LIKE : goal.returns-then-kind-eq-LIKE
returns-then-kind-eq-LIKE c = sym (left_liked c.args.end c.args.x c.if-kind-eq-LIKE.true)

pub overflow_sub-result-then-kind-eq-IN_LIST : goal.overflow_sub-result-then-kind-eq-IN_LIST
overflow_sub-result-then-kind-eq-IN_LIST c = omega (arith, c.requires.room.among c.if-kind-eq-IN_LIST.true)

pub overflow_sub-result-then-kind-eq-IN_LIST-2 : goal.overflow_sub-result-then-kind-eq-IN_LIST-2
overflow_sub-result-then-kind-eq-IN_LIST-2 c = omega (arith, c.requires.room.among c.if-kind-eq-IN_LIST.true)

pub returns-then-kind-eq-IN_LIST : goal.returns-then-kind-eq-IN_LIST
returns-then-kind-eq-IN_LIST c = sym (left_listed c.args.end c.args.x c.if-kind-eq-IN_LIST.true)

pub overflow_sub-result-2 : goal.overflow_sub-result-2
overflow_sub-result-2 c = three_before _ _ c.requires.room c.requires.false_kind_lt_kind.0 c.requires.false_kind_lt_kind.1 c.if-kind-eq-LIKE.false c.if-kind-eq-IN_LIST.false

pub returns : goal.returns
returns c = rw (ne_eqb _ _ c.if-kind-eq-LIKE.false, ne_eqb _ _ c.if-kind-eq-IN_LIST.false)
