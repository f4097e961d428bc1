-- `numbers::bits::is_finite` meets its contract. Assumes nothing.
use Rattle.numbers.proofs.Exponent.{by_field}
use Rattle.numbers.proofs.bits.is_finite.Goals as goal

pub returns : goal.returns
returns c = by_field c.args.bits
