-- `slots::free_slot` meets its contract: no slot passed is empty. Assumes nothing.
use Rattle.slots.proofs.SlotLaws.{one_more}
use Rattle.slots.specs.Slots.{slot_at, some, none}
use native.Mathlib.Omega.{arith}
use Prim.Native.Nat.{ℕ, ◌+◌, ◌-◌, ◌<◌, ◌≤◌}
use mathlib.Core.Path.{◌≡◌}
use Rattle.slots.proofs.free_slot.Goals as goal

pub loop-tries-init : goal.loop-tries-init
loop-tries-init c = (omega arith, λ j h. absurd (omega arith))

pub returns-then-places-k-eq0 : goal.returns-then-places-k-eq0
returns-then-places-k-eq0 c = some c.loop-tries-test.true c.if-places-k-eq0.true c.loop-tries.invariant.1

pub loop-tries-preserved : goal.loop-tries-preserved
loop-tries-preserved c = (omega arith, one_more (λ (j : ℕ). slot_at c.args.places.now c.args.base (c.args.start + j) ≡ 0 → ⊥) _ c.loop-tries.invariant.1 c.if-places-k-eq0.false)

pub returns : goal.returns
returns c = none (λ j h. c.loop-tries.invariant.1 j (omega arith))
