-- `numbers::bits::number_of` meets its contract: finite bits are no NaN's. Assumes nothing.
use Rattle.numbers.proofs.Exponent.{no_nan_bits}
use borrow.Author.Rules.{rules}
use Rattle.numbers.proofs.bits.number_of.Goals as goal

pub float_from_bits-result : goal.float_from_bits-result
float_from_bits-result c = no_nan_bits c.args.bits c.requires
