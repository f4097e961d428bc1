-- `slots::place_in` meets its contract. The invariant: no slot passed has the path, so an empty one tells that no entry has it. Assumes nothing.
use Rattle.std.specs.Prelude.{Some}
use Rattle.bags.specs.Sections.{kind_at, entry_end}
use Rattle.tokens.specs.Blanks.{unblanked}
use Rattle.lookups.specs.Values.{absent}
use Rattle.lookups.specs.Lookups.{look_in, base_of}
use Rattle.slots.specs.Slots.{kept_sections}
use borrow.Author.Rules.{rules}
use Rattle.slots.proofs.SlotLaws.{one_more, Rooted, rooted, absent_in, slot_ends, found_in, other_in}
use Rattle.lookups.proofs.BagLaws.{entry_valued}
use Rattle.lookups.proofs.StepLaws.{none_shown}
use Rattle.lookups.specs.Values.{value_at, Valued}
use Rattle.slots.specs.Slots.{slot_at}
use Rattle.bags.proofs.SectionLaws.{Entry, entry_at}
use Rattle.bags.specs.Sections.{path_at}
use lib.ListN.{length}
use borrow.Author.Tests.{not-false}
use native.Mathlib.Omega.{arith}
use Prim.Native.Nat.{ℕ, ◌+◌, ◌*◌, ◌-◌, ◌<◌, ◌≤◌}
use mathlib.Core.Path.{◌≡◌, sym, ◌∙◌, ap, refl}
use Rattle.slots.proofs.place_in.Goals as goal

pub place_through-requires : goal.place_through-requires
place_through-requires c = c.requires.sectioned

pub returns-then-not-has_slots : goal.returns-then-not-has_slots
returns-then-not-has_slots c = c.place_through.ensures

pub overflow_sub-base : goal.overflow_sub-base
overflow_sub-base c = omega (arith, c.has_slots.ensures c.if-not-has_slots.false)

pub overflow_mul-base : goal.overflow_mul-base
overflow_mul-base c = omega (arith, c.has_slots.ensures c.if-not-has_slots.false)

pub start_slot-start-requires : goal.start_slot-start-requires
start_slot-start-requires c = record { path_nonzero = ((c.has_slots.ensures c.if-not-has_slots.false).0).0; path_len_bound = ((c.has_slots.ensures c.if-not-has_slots.false).0).1 }

pub loop-tries-init : goal.loop-tries-init
loop-tries-init c = (omega arith, λ j h. absurd (omega arith))

pub overflow_add-at : goal.overflow_add-at
overflow_add-at c =
    let reach : ((0 < length c.args.path.now) × (length c.args.path.now ≤ 64)) × ((0 < c.args.root) × (c.args.root ≤ 3)) = c.has_slots.ensures c.if-not-has_slots.false in
    omega (arith, reach)

pub overflow_add-at-in-loop-tries : goal.overflow_add-at-in-loop-tries
overflow_add-at-in-loop-tries c =
    let reach : ((0 < length c.args.path.now) × (length c.args.path.now ≤ 64)) × ((0 < c.args.root) × (c.args.root ≤ 3)) = c.has_slots.ensures c.if-not-has_slots.false in
    omega (arith, reach)

pub offset_bounds-places-base : goal.offset_bounds-places-base
offset_bounds-places-base c =
    let reach : ((0 < length c.args.path.now) × (length c.args.path.now ≤ 64)) × ((0 < c.args.root) × (c.args.root ≤ 3)) = c.has_slots.ensures c.if-not-has_slots.false in
    omega (arith, reach)

pub bounds-places-base : goal.bounds-places-base
bounds-places-base c =
    let reach : ((0 < length c.args.path.now) × (length c.args.path.now ≤ 64)) × ((0 < c.args.root) × (c.args.root ≤ 3)) = c.has_slots.ensures c.if-not-has_slots.false in
    omega (arith, reach)

pub returns-then-is_plain : goal.returns-then-is_plain
returns-then-is_plain c =
    let reach : ((0 < length c.args.path.now) × (length c.args.path.now ≤ 64)) × ((0 < c.args.root) × (c.args.root ≤ 3)) = c.has_slots.ensures c.if-not-has_slots.false in
    let the-root : Rooted c.args.s.now c.args.places.now c.args.root = rooted _ _ _ c.requires.sectioned c.requires.indexed reach.1.0 reach.1.1 in
    none_shown _
    (absent_in _ _ _ the-root c.args.path.now _ _ c.start_slot-start.ensures.is c.loop-tries-test.true (c.if-at-eq0.true) c.loop-tries.invariant.1 (c.is_plain.ensures c.if-is_plain.true))

pub place_through-requires-then-at-eq0 : goal.place_through-requires-then-at-eq0
place_through-requires-then-at-eq0 c = c.requires.sectioned

pub returns-then-at-eq0 : goal.returns-then-at-eq0
returns-then-at-eq0 c = c.place_through-then-at-eq0.ensures

pub has_path-requires : goal.has_path-requires
has_path-requires c =
    let reach : ((0 < length c.args.path.now) × (length c.args.path.now ≤ 64)) × ((0 < c.args.root) × (c.args.root ≤ 3)) = c.has_slots.ensures c.if-not-has_slots.false in
    let the-root : Rooted c.args.s.now c.args.places.now c.args.root = rooted _ _ _ c.requires.sectioned c.requires.indexed reach.1.0 reach.1.1 in
    let ends : (e : ℕ) × (entry_end c.args.s.now (slot_at c.args.places.now (64 * (c.args.root - 1)) (c.start_slot-start.result + c.loop-tries.tries)) ≡ Some e) = slot_ends _ _ _ the-root c.args.path.now _ _ refl c.if-at-eq0.false in
    let held : Entry c.args.s.now (slot_at c.args.places.now (64 * (c.args.root - 1)) (c.start_slot-start.result + c.loop-tries.tries)) ends.0 = entry_at _ _ _ ends.1 in
    held.named

pub overflow_add-result : goal.overflow_add-result
overflow_add-result c =
    let reach : ((0 < length c.args.path.now) × (length c.args.path.now ≤ 64)) × ((0 < c.args.root) × (c.args.root ≤ 3)) = c.has_slots.ensures c.if-not-has_slots.false in
    let the-root : Rooted c.args.s.now c.args.places.now c.args.root = rooted _ _ _ c.requires.sectioned c.requires.indexed reach.1.0 reach.1.1 in
    let ends : (e : ℕ) × (entry_end c.args.s.now (slot_at c.args.places.now (64 * (c.args.root - 1)) (c.start_slot-start.result + c.loop-tries.tries)) ≡ Some e) = slot_ends _ _ _ the-root c.args.path.now _ _ refl c.if-at-eq0.false in
    let held : Entry c.args.s.now (slot_at c.args.places.now (64 * (c.args.root - 1)) (c.start_slot-start.result + c.loop-tries.tries)) ends.0 = entry_at _ _ _ ends.1 in
    omega (arith, held.named)

pub overflow_add-result-then-has_path : goal.overflow_add-result-then-has_path
overflow_add-result-then-has_path c =
    let reach : ((0 < length c.args.path.now) × (length c.args.path.now ≤ 64)) × ((0 < c.args.root) × (c.args.root ≤ 3)) = c.has_slots.ensures c.if-not-has_slots.false in
    let the-root : Rooted c.args.s.now c.args.places.now c.args.root = rooted _ _ _ c.requires.sectioned c.requires.indexed reach.1.0 reach.1.1 in
    let ends : (e : ℕ) × (entry_end c.args.s.now (slot_at c.args.places.now (64 * (c.args.root - 1)) (c.start_slot-start.result + c.loop-tries.tries)) ≡ Some e) = slot_ends _ _ _ the-root c.args.path.now _ _ refl c.if-at-eq0.false in
    let held : Entry c.args.s.now (slot_at c.args.places.now (64 * (c.args.root - 1)) (c.start_slot-start.result + c.loop-tries.tries)) ends.0 = entry_at _ _ _ ends.1 in
    let found : ((slot_at c.args.places.now (64 * (c.args.root - 1)) (c.start_slot-start.result + c.loop-tries.tries)) + 1 + length c.args.path.now ≡ kind_at c.args.s.now (slot_at c.args.places.now (64 * (c.args.root - 1)) (c.start_slot-start.result + c.loop-tries.tries)))
    × (value_at c.args.s.now (kind_at c.args.s.now (slot_at c.args.places.now (64 * (c.args.root - 1)) (c.start_slot-start.result + c.loop-tries.tries)))
    ≡ look_in absent (base_of c.args.s.now (kept_sections c.args.places.now) c.args.root) (unblanked c.args.path.now)) = found_in _ _ _ the-root c.args.path.now _ _ refl c.if-at-eq0.false (sym c.has_path.ensures ∙ c.if-has_path.true) in
    let w = found in omega (arith, held.named)

pub returns-then-has_path : goal.returns-then-has_path
returns-then-has_path c =
    let reach : ((0 < length c.args.path.now) × (length c.args.path.now ≤ 64)) × ((0 < c.args.root) × (c.args.root ≤ 3)) = c.has_slots.ensures c.if-not-has_slots.false in
    let the-root : Rooted c.args.s.now c.args.places.now c.args.root = rooted _ _ _ c.requires.sectioned c.requires.indexed reach.1.0 reach.1.1 in
    let ends : (e : ℕ) × (entry_end c.args.s.now (slot_at c.args.places.now (64 * (c.args.root - 1)) (c.start_slot-start.result + c.loop-tries.tries)) ≡ Some e) = slot_ends _ _ _ the-root c.args.path.now _ _ refl c.if-at-eq0.false in
    let valued : Valued c.args.s.now (kind_at c.args.s.now (slot_at c.args.places.now (64 * (c.args.root - 1)) (c.start_slot-start.result + c.loop-tries.tries))) = entry_valued _ _ _ ends.1 in
    let found : ((slot_at c.args.places.now (64 * (c.args.root - 1)) (c.start_slot-start.result + c.loop-tries.tries)) + 1 + length c.args.path.now ≡ kind_at c.args.s.now (slot_at c.args.places.now (64 * (c.args.root - 1)) (c.start_slot-start.result + c.loop-tries.tries)))
    × (value_at c.args.s.now (kind_at c.args.s.now (slot_at c.args.places.now (64 * (c.args.root - 1)) (c.start_slot-start.result + c.loop-tries.tries)))
    ≡ look_in absent (base_of c.args.s.now (kept_sections c.args.places.now) c.args.root) (unblanked c.args.path.now)) = found_in _ _ _ the-root c.args.path.now _ _ refl c.if-at-eq0.false (sym c.has_path.ensures ∙ c.if-has_path.true) in
    record {
      is = ap (value_at c.args.s.now) found.0 ∙ found.1;
      valued = λ h. rw found.0 valued;
    }

pub loop-tries-preserved : goal.loop-tries-preserved
loop-tries-preserved c =
    let reach : ((0 < length c.args.path.now) × (length c.args.path.now ≤ 64)) × ((0 < c.args.root) × (c.args.root ≤ 3)) = c.has_slots.ensures c.if-not-has_slots.false in
    let the-root : Rooted c.args.s.now c.args.places.now c.args.root = rooted _ _ _ c.requires.sectioned c.requires.indexed reach.1.0 reach.1.1 in (
      omega arith,
      one_more (λ (j : ℕ). path_at c.args.s.now (slot_at c.args.places.now (64 * (c.args.root - 1)) (c.start_slot-start.result + j)) ≡ c.args.path.now → ⊥) _ c.loop-tries.invariant.1
          (other_in _ _ _ the-root c.args.path.now _ _ refl c.if-at-eq0.false (sym c.has_path.ensures ∙ c.if-has_path.false)),
    )

pub place_through-requires-2 : goal.place_through-requires-2
place_through-requires-2 c = c.requires.sectioned

pub returns : goal.returns
returns c = c.place_through-2.ensures
