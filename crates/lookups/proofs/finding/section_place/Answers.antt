-- `lookups::finding::section_place` meets its contract. Assumes nothing.
use native.Mathlib.Omega.{arith}
use Rattle.bags.proofs.SectionLaws.{section_at_lem}
use Rattle.lookups.specs.Lookups.{section_at}
use Rattle.lookups.proofs.finding.section_place.Goals as goal

pub bounds-s-b : goal.bounds-s-b
bounds-s-b c = (section_at_lem _ _ _ c.requires.1).counted

pub overflow_cast-s : goal.overflow_cast-s
overflow_cast-s c = omega (arith, (section_at_lem _ _ _ c.requires.1).few)

pub overflow_add-b : goal.overflow_add-b
overflow_add-b c = omega (arith, (section_at_lem _ _ _ c.requires.1).counted)

pub find_in-requires : goal.find_in-requires
find_in-requires c = (c.requires.0, (section_at_lem _ _ _ c.requires.1).entries)

pub returns : goal.returns
unfolding section_at
returns c = c.find_in.ensures
