-- `slots::put_section` meets its contract. The invariant: the entries passed are met in the slots, and slots hold entries alone. Assumes nothing.
use Rattle.slots.proofs.SlotLaws.{Filling, filling_starts, filling_on, filled}
use Rattle.bags.proofs.ReadLaws.{First, first, same_end}
use Rattle.bags.proofs.SectionLaws.{Entry, entry_at, section_at_lem}
use Rattle.bags.specs.Sections.{entry_end}
use native.Mathlib.Omega.{arith}
use mathlib.Core.Path.{◌∙◌}
use Rattle.std.proofs.Common.{◌-◌}
use Rattle.bags.specs.Reading.{byte}
use Rattle.slots.proofs.put_section.Given as goal

abbrev pub invariant-loop : goal.invariant-loop
invariant-loop l = Filling l.s l.initial.places l.places l.base l.b (byte l.s l.b - l.counter) l.next
