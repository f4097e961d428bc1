-- `policies::no_policy` meets its contract: by the token's kind. Assumes nothing.
use Rattle.grammar.specs.Parser.{no_policy}
use Rattle.policies.proofs.no_policy.Goals as goal

pub returns-then-t : goal.returns-then-t
unfolding no_policy
returns-then-t c = rw c.if-t.true

pub returns-else-t : goal.returns-else-t
unfolding no_policy
returns-else-t c = rw c.if-t.false
