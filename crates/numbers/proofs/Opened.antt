-- One word for proofs that compute: who unfolds it sees through number literals, the numbers of bags and their comparisons. Assumes nothing.
use lib.Ieee.{of_bits, round, neg, lt, eq, le, ne}
use Rattle.numbers.specs.Literals.{digits_of, after_point, magnitude_in, number_in}
use Rattle.numbers.specs.Bits.{number_at}

unfoldable pub numbers_opened : Unit {0}
unfolding of_bits round neg lt eq le ne digits_of after_point magnitude_in number_in number_at
numbers_opened = tt
