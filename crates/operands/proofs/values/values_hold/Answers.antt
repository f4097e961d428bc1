-- `operands::values::values_hold` meets its contract. Assumes nothing.
use Rattle.operands.proofs.ValueLaws.{mixed_kinds, two_strings, two_numbers, two_flags, no_kind, flags_same}
use mathlib.Core.Path.{◌∙◌}
use native.Mathlib.Omega.{arith}
use Rattle.operands.proofs.values.values_hold.Goals as goal

pub returns-then-v-w : goal.returns-then-v-w
returns-then-v-w c = λ l m. mixed_kinds _ _ _ l _ _ m c.if-v-w.true

pub returns-in-1 : goal.returns-in-1
returns-in-1 c = λ l m. two_strings _ _ _ l _ _ m _ _ c.in-1.is c.if-v-w.false c.same_string.ensures c.equality_holds.ensures

pub returns-in-2 : goal.returns-in-2
returns-in-2 c = λ l m. two_numbers _ _ _ l _ _ m _ c.in-2.is c.if-v-w.false (c.compares.ensures ∙ c.comparator_of.ensures _ _)

pub returns-in-3 : goal.returns-in-3
returns-in-3 c = λ l m. two_flags _ _ _ l _ _ m _ _ c.in-3.is c.if-v-w.false (flags_same _ _) c.equality_holds-in-3.ensures

pub returns-in_default : goal.returns-in_default
returns-in_default c = λ l m. no_kind _ _ _ l _ _ m (λ e. omega arith) (λ e. omega arith) (λ e. omega arith)
