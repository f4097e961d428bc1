-- `targets::matching::principal_matches` meets its contract: by the kind of the entry, whose version does not matter. Assumes nothing.
use Rattle.targets.proofs.MatchLaws.{bare_principal, typed_principal}
use Rattle.targets.proofs.matching.principal_matches.Goals as goal

pub returns-then-x : goal.returns-then-x
returns-then-x c t s types d = bare_principal _ t s types c.if-x.true

pub returns : goal.returns
returns c t s types d = typed_principal _ t s types c.if-x.false c.requires d
