-- `numbers::bits::is_number_at` meets its contract. Assumes nothing.
use Rattle.numbers.specs.Bits.{number_at}
use mathlib.Core.Path.{◌∙◌}
use borrow.Author.Rules.{rules}
use Rattle.numbers.proofs.bits.is_number_at.Goals as goal

pub returns : goal.returns
unfolding number_at
returns c = c.is_finite.ensures ∙ rw c.bits_at.ensures
