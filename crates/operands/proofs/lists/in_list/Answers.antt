-- `operands::lists::in_list` meets its contract. Assumes nothing.
use Rattle.operands.proofs.ListLaws.{list_counted, listed_at}
use native.Mathlib.Omega.{arith}
use Rattle.operands.proofs.lists.in_list.Goals as goal

pub bounds-s-place : goal.bounds-s-place
bounds-s-place c = omega (arith, (list_counted _ _ _ c.requires.1).counted)

pub overflow_add-place : goal.overflow_add-place
overflow_add-place c = omega (arith, (list_counted _ _ _ c.requires.1).counted)

pub in_strings-requires : goal.in_strings-requires
in_strings-requires c = (c.requires.0, (list_counted _ _ _ c.requires.1).are)

pub returns : goal.returns
returns c = listed_at _ _ _ _ c.in_strings.ensures
