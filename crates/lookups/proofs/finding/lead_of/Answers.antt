-- `lookups::finding::lead_of` meets its contract: the first byte of what is left but its blanks is that of all. Assumes nothing.
use borrow.Author.Rules.{rules}
use borrow.Author.Tests.{not-true, not-false}
use Rattle.lookups.proofs.FindLaws.{lead_end, lead_blank, lead_here}
use Rattle.tokens.specs.Blanks.{unblanked}
use Rattle.bags.specs.Reading.{byte}
use native.Mathlib.Omega.{arith}
use mathlib.Core.Path.{◌≡◌, refl, sym, ◌∙◌}
use lib.ListN.{length, drop}
use Prim.Native.Nat.{◌-◌}
use Rattle.lookups.proofs.finding.lead_of.Goals as goal

pub loop-c-init : goal.loop-c-init
loop-c-init c = refl

pub returns-then-not-is_blank : goal.returns-then-not-is_blank
returns-then-not-is_blank c = lead_here c.args.path.now c.loop-c.c-index c.loop-c-test.true (sym c.is_blank.ensures ∙ c.if-not-is_blank.true) ∙ c.loop-c.invariant

pub loop-c-preserved : goal.loop-c-preserved
loop-c-preserved c = lead_blank c.args.path.now c.loop-c.c-index c.loop-c-test.true (sym c.is_blank.ensures ∙ c.if-not-is_blank.false) ∙ c.loop-c.invariant

pub returns : goal.returns
returns c = lead_end c.args.path.now c.loop-c.c-index c.loop-c-test.false ∙ c.loop-c.invariant
