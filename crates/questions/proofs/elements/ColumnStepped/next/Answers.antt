-- The step over a column meets its contract. Assumes nothing.
use native.Mathlib.Omega.{arith}
use Rattle.questions.proofs.ColumnLaws.{column_at, column_next_is}
use Rattle.questions.proofs.elements.ColumnStepped.next.Goals as goal

pub overflow_add-count_at : goal.overflow_add-count_at
overflow_add-count_at c = omega (arith, (column_at _ _ _ c.requires.1).counted)

pub overflow_add-count_at-2 : goal.overflow_add-count_at-2
overflow_add-count_at-2 c = omega (arith, (column_at _ _ _ c.requires.1).counted)

pub bounds-s-at : goal.bounds-s-at
bounds-s-at c = omega (arith, (column_at _ _ _ c.requires.1).counted)

pub overflow_cast-count_at : goal.overflow_cast-count_at
overflow_cast-count_at c = omega (arith, (column_at _ _ _ c.requires.1).counted)

pub overflow_add-count_at-3 : goal.overflow_add-count_at-3
overflow_add-count_at-3 c = omega (arith, (column_at _ _ _ c.requires.1).counted)

pub bounds-s-count_at : goal.bounds-s-count_at
bounds-s-count_at c = omega (arith, (column_at _ _ _ c.requires.1).counted)

pub overflow_cast-s : goal.overflow_cast-s
overflow_cast-s c = omega (arith, (column_at _ _ _ c.requires.1).few)

pub overflow_add-count_at-4 : goal.overflow_add-count_at-4
overflow_add-count_at-4 c = omega (arith, (column_at _ _ _ c.requires.1).counted)

pub many_next-requires : goal.many_next-requires
many_next-requires c = (c.requires.0, (column_at _ _ _ c.requires.1).candidates)

pub returns : goal.returns
returns c = column_next_is _ _ _ _ c.requires.1 c.many_next.ensures
