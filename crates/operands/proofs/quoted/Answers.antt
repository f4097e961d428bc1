-- `operands::quoted` meets its contract. Assumes nothing.
use Rattle.operands.proofs.OperandLaws.{quoted_cut}
use native.Mathlib.Omega.{arith}
use Rattle.operands.proofs.quoted.Goals as goal

pub overflow_add-result : goal.overflow_add-result
overflow_add-result c = omega (arith, c.requires.two)

pub overflow_sub-result : goal.overflow_sub-result
overflow_sub-result c = omega (arith, c.requires.two)

pub slice_bounds-result-count : goal.slice_bounds-result-count
slice_bounds-result-count c = omega (arith, c.requires.two)

pub slice_bounds-result-end : goal.slice_bounds-result-end
slice_bounds-result-end c = omega (arith, c.requires.two, c.requires.lies.high)

pub returns : goal.returns
returns c = quoted_cut c.args.text.now c.args.o.first c.args.o.second
