-- What tells a column from the others ends before its count byte. Assumes nothing.
use Rattle.std.proofs.Common.{arith}
use Rattle.questions.proofs.ColumnLaws.{column_at, column_name}
use Rattle.questions.proofs.elements.ColumnUnrepeated.name_end.Goals as goal

pub overflow_add-result : goal.overflow_add-result
overflow_add-result c = omega (arith, (column_at _ _ _ c.requires).counted)

pub overflow_add-result-2 : goal.overflow_add-result-2
overflow_add-result-2 c = omega (arith, (column_at _ _ _ c.requires).counted)

pub bounds-s-at : goal.bounds-s-at
bounds-s-at c = omega (arith, (column_at _ _ _ c.requires).counted)

pub overflow_add-result-3 : goal.overflow_add-result-3
overflow_add-result-3 c = omega (arith, (column_at _ _ _ c.requires).counted)

pub returns : goal.returns
returns c = column_name _ _ _ c.requires
