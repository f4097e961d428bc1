-- `operands::values::comparator_of` meets its contract. Assumes nothing.
use Rattle.operands.proofs.ValueLaws.{equal_13, not_equal_14, more_15, at_least_16, less_17, at_most, ordered_by}
use mathlib.Core.Path.{refl}
use native.Mathlib.Omega.{arith}
use Rattle.operands.proofs.values.comparator_of.Goals as goal

pub returns-in-13 : goal.returns-in-13
returns-in-13 c = λ x y. ordered_by _ _ x y _ (equal_13 _ c.in-13.is) refl

pub returns-in-14 : goal.returns-in-14
returns-in-14 c = λ x y. ordered_by _ _ x y _ (not_equal_14 _ c.in-14.is) refl

pub returns-in-15 : goal.returns-in-15
returns-in-15 c = λ x y. ordered_by _ _ x y _ (more_15 _ c.in-15.is) refl

pub returns-in-16 : goal.returns-in-16
returns-in-16 c = λ x y. ordered_by _ _ x y _ (at_least_16 _ c.in-16.is) refl

pub returns-in-17 : goal.returns-in-17
returns-in-17 c = λ x y. ordered_by _ _ x y _ (less_17 _ c.in-17.is) refl

pub returns-in_default : goal.returns-in_default
returns-in_default c = λ x y. ordered_by _ _ x y _ (at_most _ (λ e. omega arith) (λ e. omega arith) (λ e. omega arith) (λ e. omega arith) (λ e. omega arith)) refl
