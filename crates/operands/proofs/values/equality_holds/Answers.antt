-- `operands::values::equality_holds` meets its contract. Assumes nothing.
use Rattle.operands.proofs.ValueLaws.{equal_13, not_equal_14, equality_by, no_equality}
use mathlib.Core.Path.{refl}
use native.Mathlib.Omega.{arith}
use Rattle.operands.proofs.values.equality_holds.Goals as goal

pub returns-in-13 : goal.returns-in-13
returns-in-13 c = equality_by _ _ _ _ (equal_13 _ c.in-13.is) refl

pub returns-in-14 : goal.returns-in-14
returns-in-14 c = equality_by _ _ _ _ (not_equal_14 _ c.in-14.is) refl

pub returns-in_default : goal.returns-in_default
returns-in_default c = no_equality _ _ (λ e. omega arith) (λ e. omega arith)
