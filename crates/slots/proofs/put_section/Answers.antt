-- `slots::put_section` meets its contract. The invariant: the entries passed are met in the slots, and slots hold entries alone. Assumes nothing.
use Rattle.slots.proofs.SlotLaws.{Filling, filling_starts, filling_on, filled}
use Rattle.bags.proofs.ReadLaws.{First, first, same_end}
use Rattle.bags.proofs.SectionLaws.{Entry, entry_at, section_at_lem}
use Rattle.bags.specs.Sections.{entry_end}
use native.Mathlib.Omega.{arith}
use mathlib.Core.Path.{◌∙◌}
use Rattle.std.proofs.Common.{◌≡◌, ◌-◌, ◌+◌}
use Rattle.bags.specs.Reading.{byte}
use Rattle.slots.proofs.put_section.Goals as goal

pub bounds-s-b : goal.bounds-s-b
bounds-s-b c = (section_at_lem _ _ _ c.requires.by_index_2.1).counted

pub overflow_add-next : goal.overflow_add-next
overflow_add-next c = omega (arith, (section_at_lem _ _ _ c.requires.by_index_2.1).counted)

pub loop-init : goal.loop-init
loop-init c = let e : byte c.args.s.now c.args.b - 0 ≡ byte c.args.s.now c.args.b = omega arith in rw e (filling_starts c.args.s.now c.args.places.now c.args.base c.args.b c.requires.places_len c.requires.by_index)

pub put_entry-requires : goal.put_entry-requires
put_entry-requires c =
    let one : First (entry_end c.args.s.now) (byte c.args.s.now c.args.b - c.loop.counter) c.loop.next c.requires.by_index_2.0 = first _ _ _ _ (omega arith) (c.loop.invariant.ends ∙ (section_at_lem _ _ _ c.requires.by_index_2.1).entries) in
    record {
      places_len = c.loop.invariant.sized;
      slot_count_bound = c.requires.slot_count_bound;
      at_nonzero = c.loop.invariant.low;
      s_len_bound = c.requires.s_len_bound;
      by_index = (one.stop, one.ends);
    }

pub overflow_add-kind_at : goal.overflow_add-kind_at
overflow_add-kind_at c =
    let one : First (entry_end c.args.s.now) (byte c.args.s.now c.args.b - c.loop.counter) c.loop.next c.requires.by_index_2.0 = first _ _ _ _ (omega arith) (c.loop.invariant.ends ∙ (section_at_lem _ _ _ c.requires.by_index_2.1).entries) in
    let whole : Entry c.args.s.now c.loop.next one.stop = entry_at _ _ _ one.ends in
    omega (arith, whole.named)

pub bounds-s-next : goal.bounds-s-next
bounds-s-next c =
    let one : First (entry_end c.args.s.now) (byte c.args.s.now c.args.b - c.loop.counter) c.loop.next c.requires.by_index_2.0 = first _ _ _ _ (omega arith) (c.loop.invariant.ends ∙ (section_at_lem _ _ _ c.requires.by_index_2.1).entries) in
    let whole : Entry c.args.s.now c.loop.next one.stop = entry_at _ _ _ one.ends in
    omega (arith, whole.named)

pub overflow_cast-kind_at : goal.overflow_cast-kind_at
overflow_cast-kind_at c =
    let one : First (entry_end c.args.s.now) (byte c.args.s.now c.args.b - c.loop.counter) c.loop.next c.requires.by_index_2.0 = first _ _ _ _ (omega arith) (c.loop.invariant.ends ∙ (section_at_lem _ _ _ c.requires.by_index_2.1).entries) in
    let whole : Entry c.args.s.now c.loop.next one.stop = entry_at _ _ _ one.ends in
    omega (arith, whole.named)

pub overflow_add-kind_at-in-loop : goal.overflow_add-kind_at-in-loop
overflow_add-kind_at-in-loop c =
    let one : First (entry_end c.args.s.now) (byte c.args.s.now c.args.b - c.loop.counter) c.loop.next c.requires.by_index_2.0 = first _ _ _ _ (omega arith) (c.loop.invariant.ends ∙ (section_at_lem _ _ _ c.requires.by_index_2.1).entries) in
    let whole : Entry c.args.s.now c.loop.next one.stop = entry_at _ _ _ one.ends in
    omega (arith, whole.named)

pub bounds-s-kind_at : goal.bounds-s-kind_at
bounds-s-kind_at c =
    let one : First (entry_end c.args.s.now) (byte c.args.s.now c.args.b - c.loop.counter) c.loop.next c.requires.by_index_2.0 = first _ _ _ _ (omega arith) (c.loop.invariant.ends ∙ (section_at_lem _ _ _ c.requires.by_index_2.1).entries) in
    let whole : Entry c.args.s.now c.loop.next one.stop = entry_at _ _ _ one.ends in
    omega (arith, whole.named)

pub overflow_add-kind_at-in-loop-2 : goal.overflow_add-kind_at-in-loop-2
overflow_add-kind_at-in-loop-2 c =
    let one : First (entry_end c.args.s.now) (byte c.args.s.now c.args.b - c.loop.counter) c.loop.next c.requires.by_index_2.0 = first _ _ _ _ (omega arith) (c.loop.invariant.ends ∙ (section_at_lem _ _ _ c.requires.by_index_2.1).entries) in
    let whole : Entry c.args.s.now c.loop.next one.stop = entry_at _ _ _ one.ends in
    omega (arith, whole.named)

pub value_next-next-requires : goal.value_next-next-requires
value_next-next-requires c =
    let one : First (entry_end c.args.s.now) (byte c.args.s.now c.args.b - c.loop.counter) c.loop.next c.requires.by_index_2.0 = first _ _ _ _ (omega arith) (c.loop.invariant.ends ∙ (section_at_lem _ _ _ c.requires.by_index_2.1).entries) in
    let whole : Entry c.args.s.now c.loop.next one.stop = entry_at _ _ _ one.ends in
    (one.stop, whole.valued)

pub loop-preserved : goal.loop-preserved
loop-preserved c =
    let one : First (entry_end c.args.s.now) (byte c.args.s.now c.args.b - c.loop.counter) c.loop.next c.requires.by_index_2.0 = first _ _ _ _ (omega arith) (c.loop.invariant.ends ∙ (section_at_lem _ _ _ c.requires.by_index_2.1).entries) in
    let whole : Entry c.args.s.now c.loop.next one.stop = entry_at _ _ _ one.ends in
    let f = one in
    let ends = rw (same_end whole.valued c.value_next-next.ensures) at f.ends in
    let e : byte c.args.s.now c.args.b - (c.loop.counter + 1) ≡ byte c.args.s.now c.args.b - c.loop.counter - 1 = omega arith in
    rw e (filling_on c.args.s.now c.args.places.now c.args.base c.args.b c.loop.places (byte c.args.s.now c.args.b - c.loop.counter) c.loop.next c.loop.invariant _ c.value_next-next.result (omega arith) ends c.put_entry.ensures)

pub returns : goal.returns
returns c = filled c.args.s.now c.args.places.now c.args.base c.args.b c.loop.places (byte c.args.s.now c.args.b - c.loop.counter) c.loop.next c.loop.invariant (omega arith)
