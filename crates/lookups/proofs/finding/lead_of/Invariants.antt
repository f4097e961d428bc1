-- `lookups::finding::lead_of` meets its contract: the first byte of what is left but its blanks is that of all. Assumes nothing.
use borrow.Author.Rules.{rules}
use borrow.Author.Tests.{not-true, not-false}
use Rattle.lookups.proofs.FindLaws.{lead_end, lead_blank, lead_here}
use Rattle.tokens.specs.Blanks.{unblanked}
use Rattle.bags.specs.Reading.{byte}
use native.Mathlib.Omega.{arith}
use mathlib.Core.Path.{◌≡◌, refl, sym, ◌∙◌}
use lib.ListN.{length, drop}
use Prim.Native.Nat.{◌-◌}
use Rattle.lookups.proofs.finding.lead_of.Given as goal

abbrev pub invariant-loop-c : goal.invariant-loop-c
invariant-loop-c l = byte (unblanked (drop l.c-index l.path)) 0 ≡ byte (unblanked l.path) 0
