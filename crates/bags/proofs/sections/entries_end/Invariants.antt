-- `bags::sections::entries_end` meets its contract: the entries left, the first after the last path passed, end where all do. Assumes nothing.
use Rattle.std.proofs.Common.{◌≡◌, ◌-◌}
use Rattle.bags.proofs.SectionLaws.{entries_after}
use Rattle.bags.specs.Sections.{entries_end}
use Rattle.bags.proofs.sections.entries_end.Given as goal

abbrev pub invariant-loop : goal.invariant-loop
invariant-loop l = entries_after l.last (l.n - l.counter) l.s l.next ≡ entries_end l.n l.s l.at
