use Rattle.numbers_vectors.proofs.WholeToken.{whole_token}
use Rattle.numbers_vectors.proofs.is_literal.Goals as goal

pub returns : goal.returns
returns c = λ e. whole_token _ _ c.next_token-t.ensures.is e
