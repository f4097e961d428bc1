-- `words::is` meets its contract: bytes that begin others of the same length are these, and where the first differs they are not. Assumes nothing.
use mathlib.Core.Path.{sym, ◌∙◌}
use native.Mathlib.Omega.{arith}
use Rattle.slices.proofs.PieceLaws.{starts_same}
use Rattle.words.proofs.StandingLaws.{first_apart}
use Rattle.words.proofs.is.Goals as goal

pub returns-then-word-bytes : goal.returns-then-word-bytes
returns-then-word-bytes g c = c.starts_with.ensures.value ∙ starts_same c.args.bytes.now c.args.word.now (c.requires.word_length ∙ sym c.told-bytes)

pub returns-else-word-bytes : goal.returns-else-word-bytes
returns-else-word-bytes g c = first_apart c.args.word.now c.args.bytes.now (omega (arith, c.requires.word_length, c.requires.some)) (omega (arith, c.told-bytes, c.requires.some)) c.if-word-bytes.false
