-- `targets::matching::is_quoted` meets its contract: strings of other lengths are no match. Assumes nothing.
use Rattle.targets.proofs.MatchLaws.{quoted_part, quoted_length}
use Rattle.slices.specs.Same.{same}
use mathlib.Core.Path.{◌∙◌, ap}
use borrow.Author.Rules.{rules}
use lib.ListN.{length-take, length-drop}
use native.Mathlib.Omega.{arith}
use Rattle.targets.proofs.matching.is_quoted.Goals as goal

pub returns-then-s-to : goal.returns-then-s-to
returns-then-s-to c = quoted_length _ _ _ _ c.requires.0 c.requires.1 c.if-s-to.true

pub same_bytes-requires : goal.same_bytes-requires
same_bytes-requires c = simp (length-take, length-drop) (omega (arith, c.if-s-to.false, c.requires.0, c.requires.1))

pub returns : goal.returns
returns c = c.same_bytes.ensures ∙ ap (same _) (quoted_part _ c.args.s.now _ _ c.requires.0 c.requires.1)
