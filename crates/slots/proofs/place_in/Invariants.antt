-- `slots::place_in` meets its contract. The invariant: no slot passed has the path, so an empty one tells that no entry has it. Assumes nothing.
use Rattle.std.specs.Prelude.{Some}
use Rattle.bags.specs.Sections.{kind_at, entry_end}
use Rattle.tokens.specs.Blanks.{unblanked}
use Rattle.lookups.specs.Values.{absent}
use Rattle.lookups.specs.Lookups.{look_in, base_of}
use Rattle.slots.specs.Slots.{kept_sections}
use borrow.Author.Rules.{rules}
use Rattle.slots.proofs.SlotLaws.{one_more, Rooted, rooted, absent_in, slot_ends, found_in, other_in}
use Rattle.lookups.proofs.BagLaws.{entry_valued}
use Rattle.lookups.proofs.StepLaws.{none_shown}
use Rattle.lookups.specs.Values.{value_at, Valued}
use Rattle.slots.specs.Slots.{slot_at}
use Rattle.bags.proofs.SectionLaws.{Entry, entry_at}
use Rattle.bags.specs.Sections.{path_at}
use lib.ListN.{length}
use borrow.Author.Tests.{not-false}
use native.Mathlib.Omega.{arith}
use Prim.Native.Nat.{ℕ, ◌+◌, ◌*◌, ◌-◌, ◌<◌, ◌≤◌}
use mathlib.Core.Path.{◌≡◌, sym, ◌∙◌, ap}
use Rattle.slots.proofs.place_in.Given as goal

abbrev pub invariant-loop-tries : goal.invariant-loop-tries
invariant-loop-tries l = (l.tries ≤ 64) × ((j : ℕ) → j < l.tries → path_at l.s (slot_at l.places l.base (l.start + j)) ≡ l.path → ⊥)
