-- `lookups::steps::value_next` meets its contract. Assumes nothing.
use Rattle.std.specs.Prelude.{Some}
use Prim.Native.Nat.{ℕ, ◌≤◌, ◌<◌}
use mathlib.Core.List.{List}
use mathlib.Core.Path.{◌≡◌}
use native.Mathlib.Omega.{arith}
use Rattle.bags.specs.Values.{value_end}
use Rattle.lookups.proofs.StepLaws.{some_kind, as_string, as_number, as_flag, as_list, string_next, number_next, flag_next, list_next}
use Rattle.bags.proofs.ValueLaws.{value_string}
use mathlib.Core.Path.{sym, ◌∙◌}
use Rattle.lookups.proofs.steps.value_next.Goals as goal

pub overflow_add-result : goal.overflow_add-result
overflow_add-result c = omega (arith, (as_number _ _ _ _ c.requires.1 c.in-2.is).fits)

pub overflow_add-result-in-3 : goal.overflow_add-result-in-3
overflow_add-result-in-3 c = omega (arith, (as_flag _ _ _ _ c.requires.1 c.in-3.is).fits)

pub next-requires : goal.next-requires
next-requires c = (c.requires.0, value_string _ _ _ c.in-1.is ∙ c.requires.1)

pub returns-in-1 : goal.returns-in-1
returns-in-1 c = sym (value_string _ _ _ c.in-1.is) ∙ c.next.ensures

pub returns-in-2 : goal.returns-in-2
returns-in-2 c = number_next _ _ _ _ c.requires.1 c.in-2.is

pub returns-in-3 : goal.returns-in-3
returns-in-3 c = flag_next _ _ _ _ c.requires.1 c.in-3.is

pub bounds-s-at : goal.bounds-s-at
bounds-s-at c = omega (arith, (as_list _ _ _ _ c.requires.1 (omega arith) (omega arith) (omega arith)).counted)

pub overflow_add-at : goal.overflow_add-at
overflow_add-at c = omega (arith, (as_list _ _ _ _ c.requires.1 (omega arith) (omega arith) (omega arith)).counted)

pub many_next-requires : goal.many_next-requires
many_next-requires c = (c.requires.0, (as_list _ _ _ _ c.requires.1 (omega arith) (omega arith) (omega arith)).are)

pub returns-in_default : goal.returns-in_default
returns-in_default c = list_next _ _ _ _ c.requires.1 (omega arith) (omega arith) (omega arith) _ c.many_next.ensures
