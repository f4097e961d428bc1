-- `lookups::finding::find_in` meets its contract: the entry with the path is among those left exactly when it is among all. Assumes nothing.
use borrow.Author.Rules.{rules}
use Rattle.lookups.specs.Values.{absent}
use Rattle.lookups.specs.Lookups.{look_in, bag_entry_at}
use Rattle.tokens.specs.Blanks.{unblanked}
use Rattle.lookups.proofs.FindLaws.{look_done, look_here, look_on}
use Rattle.lookups.proofs.BagLaws.{entry_valued}
use Rattle.lookups.proofs.StepLaws.{past_end}
use Rattle.bags.specs.Sections.{entry_end}
use Rattle.bags.specs.Reading.{many, each}
use Rattle.bags.proofs.SectionLaws.{Entry, entry_at}
use Rattle.bags.proofs.ReadLaws.{First, first, same_end, many_more}
use native.Mathlib.Omega.{arith}
use mathlib.Core.Path.{◌≡◌, refl, sym, ◌∙◌}
use Rattle.std.proofs.Common.{◌-◌, ◌+◌}
use Rattle.lookups.proofs.finding.find_in.Given as goal

abbrev pub invariant-loop : goal.invariant-loop
invariant-loop l =
    (many (l.n - l.counter) (entry_end l.s) l.next ≡ many l.n (entry_end l.s) l.at)
    × (look_in absent (each (l.n - l.counter) (entry_end l.s) (bag_entry_at l.s) l.next) (unblanked l.path) ≡ look_in absent (each l.n (entry_end l.s) (bag_entry_at l.s) l.at) (unblanked l.path))
