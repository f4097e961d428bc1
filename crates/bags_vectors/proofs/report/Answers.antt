use Rattle.numbers.proofs.Exponent.{not_nan}
use Rattle.bags_vectors.proofs.report.Goals as goal

pub float_to_bits-v : goal.float_to_bits-v
float_to_bits-v g c = not_nan _ c.requires
