use Rattle.numbers.proofs.Exponent.{not_nan}
use Rattle.numbers_vectors.proofs.answer.Goals as goal

pub float_to_bits-x : goal.float_to_bits-x
float_to_bits-x g c = not_nan c.number-x.result c.number-x.ensures.finite
