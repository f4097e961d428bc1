-- `numbers::bits::number_at` meets its contract. Assumes nothing.
use Rattle.numbers.specs.Bits.{number_at}
use mathlib.Core.Path.{◌∙◌}
use borrow.Author.Rules.{rules}
use Rattle.numbers.proofs.bits.number_at.Goals as goal

pub number_of-requires : goal.number_of-requires
unfolding number_at
number_of-requires c = rw c.bits_at.ensures c.requires.t

pub returns : goal.returns
unfolding number_at
returns c = c.number_of.ensures ∙ rw c.bits_at.ensures
