-- `parts::answers::Reader::expect` meets its contract: by the kind of the token that stands next. Assumes nothing.
use Rattle.parts.specs.Answers.{stood, other}
use Rattle.parts.proofs.answers.Reader.expect.Goals as goal

pub returns-then-self-kind : goal.returns-then-self-kind
returns-then-self-kind c = other c.if-self-kind.true

pub returns : goal.returns
returns c = rw c.pass.ensures (stood c.if-self-kind.false)
