-- `token_reader::mark_of` meets its contract: the tests decide `mark_token`. Assumes nothing.
use native.Mathlib.Omega.{arith}
use Rattle.std.proofs.lemmas.Bool.Decides.{nat_tests}
use Rattle.tokens.specs.Tokens.{mark_token}
use Rattle.token_reader.proofs.mark_of.Goals as goal

pub returns-in-38 : goal.returns-in-38
unfolding mark_token
returns-in-38 c = grind (arith, nat_tests)

pub returns-in-33 : goal.returns-in-33
unfolding mark_token
returns-in-33 c = grind (arith, nat_tests)

pub returns-in-38-2 : goal.returns-in-38-2
unfolding mark_token
returns-in-38-2 c = grind (arith, nat_tests)

pub returns-in_default : goal.returns-in_default
unfolding mark_token
returns-in_default c = grind (arith, nat_tests)
