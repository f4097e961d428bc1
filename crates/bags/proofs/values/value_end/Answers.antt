-- `bags::values::value_end` meets its contract. Assumes nothing.
use Rattle.std.proofs.Common.{arith, ◌∙◌}
use Rattle.bags.proofs.ValueLaws.{value_string, value_number, value_flag, value_list, value_none}
use Rattle.bags.proofs.values.value_end.Goals as goal

pub returns-in-1 : goal.returns-in-1
returns-in-1 c = c.end.ensures ∙ value_string _ _ _ c.in-1.is

pub returns-in-2 : goal.returns-in-2
returns-in-2 c = c.number_end.ensures ∙ value_number _ _ _ c.in-2.is

pub returns-in-3 : goal.returns-in-3
returns-in-3 c = c.flag_end.ensures ∙ value_flag _ _ _ c.in-3.is

pub returns-in-4 : goal.returns-in-4
returns-in-4 c = c.list_end.ensures ∙ value_list _ _ _ c.in-4.is

pub returns-in_default : goal.returns-in_default
returns-in_default c = value_none _ _ _ (omega arith) (omega arith) (omega arith) (omega arith)
