-- `lookups::finding::base_place` meets its contract. Assumes nothing.
use native.Mathlib.Omega.{arith}
use Rattle.lookups.proofs.FindLaws.{base_1, base_2, base_3, look_base, look_none}
use Rattle.lookups.proofs.StepLaws.{shown_as, none_shown}
use Rattle.lookups.proofs.finding.base_place.Goals as goal

pub section_place-requires : goal.section_place-requires
section_place-requires c = (c.args.p.resource, c.requires.principal)

pub returns-in-1 : goal.returns-in-1
returns-in-1 c = shown_as _ _ c.section_place.ensures (look_base _ _ _ (base_1 _ _ _ c.in-1.is) _)

pub section_place-requires-in-2 : goal.section_place-requires-in-2
section_place-requires-in-2 c = (c.args.p.env, c.requires.resource)

pub returns-in-2 : goal.returns-in-2
returns-in-2 c = shown_as _ _ c.section_place-in-2.ensures (look_base _ _ _ (base_2 _ _ _ c.in-2.is) _)

pub section_place-requires-in-3 : goal.section_place-requires-in-3
section_place-requires-in-3 c = (c.args.p.end, c.requires.env)

pub returns-in-3 : goal.returns-in-3
returns-in-3 c = shown_as _ _ c.section_place-in-3.ensures (look_base _ _ _ (base_3 _ _ _ c.in-3.is) _)

pub returns-in_default : goal.returns-in_default
returns-in_default c = none_shown _ (look_none _ _ _ (omega arith) (omega arith) (omega arith) _)
