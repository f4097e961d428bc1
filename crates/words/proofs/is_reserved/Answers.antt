-- `words::is_reserved` meets its contract: a word is a name exactly when it is not reserved. Assumes nothing.
use Rattle.tokens.proofs.WordLaws.{reserved_or_name}
use Rattle.words.proofs.is_reserved.Goals as goal

pub returns : goal.returns
returns c = rw c.word_kind.ensures (reserved_or_name c.args.word.now)
