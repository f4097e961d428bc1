-- One word for proofs that compute: who unfolds it sees through the reading of tokens and the bytes of a path. Assumes nothing.
use Rattle.slices.specs.Same.{same}
use Rattle.tokens.specs.Bytes.{class_of}
use Rattle.tokens.specs.Runs.{run}
use Rattle.tokens.specs.Words.{reserved, kind_among}
use Rattle.tokens.specs.Tokens.{sized, word_token, string_token, number_token, mark_token, mark_at, token_at}
use Rattle.tokens.specs.Blanks.{unblanked}

unfoldable pub tokens_opened : Unit {0}
unfolding same class_of run reserved kind_among sized word_token string_token number_token mark_token mark_at token_at unblanked
tokens_opened = tt
