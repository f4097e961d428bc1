use Rattle.std.proofs.Common.{arith}
use Rattle.numbers.proofs.Exponent.{not_nan}
use Rattle.bags.proofs.ValueLaws.{value_inside}
use Rattle.views_vectors.proofs.report.Goals as goal

pub float_to_bits-v : goal.float_to_bits-v
float_to_bits-v g c = not_nan _ c.requires.0

pub slice_bounds-sum_of-count : goal.slice_bounds-sum_of-count
slice_bounds-sum_of-count g c = let inside = value_inside _ _ _ _ c.value_next-end.ensures in omega arith

pub slice_bounds-sum_of-start : goal.slice_bounds-sum_of-start
slice_bounds-sum_of-start g c = let inside = value_inside _ _ _ _ c.value_next-end.ensures in omega arith

pub slice_bounds-sum_of-end : goal.slice_bounds-sum_of-end
slice_bounds-sum_of-end g c = let inside = value_inside _ _ _ _ c.value_next-end.ensures in omega arith
