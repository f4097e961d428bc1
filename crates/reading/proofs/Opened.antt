-- One word for proofs that compute: who unfolds it sees through the tokens of a text and the readers over them. Assumes nothing.
use Rattle.tokens.proofs.Opened.{tokens_opened}
use Rattle.reading.specs.Lexemes.{choose, tokens_after, tokens_up_to, tokens_from}
use Rattle.reading.specs.Reader.{numbered, refuse_by, bind, on, need, before, mapped, up_to, onwards, chain}

unfoldable pub readers_opened : Unit {0}
unfolding tokens_opened choose tokens_after tokens_up_to tokens_from numbered refuse_by bind on need before mapped up_to onwards chain
readers_opened = tt
