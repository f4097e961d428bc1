-- `operands::literal_value` meets its contract. Assumes nothing.
use Rattle.operands.proofs.OperandLaws.{number_placed, read_string, read_number, read_true, read_false}
use native.Mathlib.Omega.{arith}
use Rattle.operands.proofs.literal_value.Goals as goal

pub returns-in-9 : goal.returns-in-9
returns-in-9 c = read_string _ _ c.in-9.is

pub slice_bounds-number-count : goal.slice_bounds-number-count
slice_bounds-number-count c = omega (arith, (number_placed _ _ c.in-10.is c.requires).lies.some)

pub slice_bounds-number-start : goal.slice_bounds-number-start
slice_bounds-number-start c = let p = number_placed _ _ c.in-10.is c.requires in omega (arith, p.lies.some, p.lies.high)

pub slice_bounds-number-end : goal.slice_bounds-number-end
slice_bounds-number-end c = let p = number_placed _ _ c.in-10.is c.requires in omega (arith, p.lies.some, p.lies.high)

pub number-requires : goal.number-requires
number-requires c = (number_placed _ _ c.in-10.is c.requires).number

pub returns-in-10 : goal.returns-in-10
returns-in-10 c = read_number _ _ _ c.in-10.is c.number.ensures.value

pub returns-in-11 : goal.returns-in-11
returns-in-11 c = read_true _ _ c.in-11.is

pub returns-in_default : goal.returns-in_default
returns-in_default c = read_false _ _ (λ e. omega arith) (λ e. omega arith) (λ e. omega arith)
