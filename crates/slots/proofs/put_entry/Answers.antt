-- `slots::put_entry` meets its contract: the place goes into the first empty slot, or there is none. Assumes nothing.
use Rattle.slots.proofs.SlotLaws.{lent_path, lent_sized, put_there, put_nowhere}
use Rattle.slots.specs.Slots.{start_slot}
use Rattle.bags.proofs.SectionLaws.{entry_at}
use native.Mathlib.Omega.{arith}
use mathlib.Core.Path.{ap, ◌∙◌}
use borrow.Author.Rules.{rules}
use Rattle.slots.proofs.put_entry.Goals as goal

pub bounds-s-at : goal.bounds-s-at
bounds-s-at c = omega (arith, (entry_at _ _ _ c.requires.by_index.1).named)

pub overflow_cast-n : goal.overflow_cast-n
overflow_cast-n c = omega (arith, (entry_at _ _ _ c.requires.by_index.1).named)

pub overflow_add-first : goal.overflow_add-first
overflow_add-first c = omega (arith, (entry_at _ _ _ c.requires.by_index.1).named)

pub overflow_add-end : goal.overflow_add-end
overflow_add-end c = omega (arith, (entry_at _ _ _ c.requires.by_index.1).named)

pub slice_bounds-start_slot-end : goal.slice_bounds-start_slot-end
slice_bounds-start_slot-end c = omega (arith, (entry_at _ _ _ c.requires.by_index.1).named)

pub start_slot-start-requires : goal.start_slot-start-requires
start_slot-start-requires c = record { path_nonzero = (lent_sized c.args.s.now c.args.at _ c.requires.by_index.1).0; path_len_bound = (lent_sized c.args.s.now c.args.at _ c.requires.by_index.1).1 }

pub overflow_cast-places : goal.overflow_cast-places
overflow_cast-places c = omega (arith, (entry_at _ _ _ c.requires.by_index.1).named)

pub returns-in-Some : goal.returns-in-Some
returns-in-Some c =
    let is = c.start_slot-start.ensures.is ∙ ap start_slot (lent_path c.args.s.now c.args.at _ c.requires.by_index.1) in
    rw (← is) (put_there c.args.places.now c.args.base _ c.args.at c.requires.places_len c.requires.slot_count_bound c.requires.at_nonzero c.free_slot.ensures _ c.in-Some.is)

pub returns-in_default : goal.returns-in_default
returns-in_default c =
    let is = c.start_slot-start.ensures.is ∙ ap start_slot (lent_path c.args.s.now c.args.at _ c.requires.by_index.1) in
    rw (← is) (put_nowhere c.args.places.now c.args.base _ c.args.at c.requires.places_len c.requires.slot_count_bound c.requires.at_nonzero c.free_slot.ensures c.in_default.is)
