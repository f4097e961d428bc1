-- `token_reader::last_word` meets its contract: the callees' results are put into `word_to`. Assumes nothing.
use Rattle.tokens.specs.Tokens.{word_token}
use Rattle.token_reader.proofs.last_word.Goals as goal

pub returns : goal.returns
unfolding word_token
returns c = rw (← c.run_end-end.ensures.place, ← c.word_kind-kind.ensures) c.within.ensures
