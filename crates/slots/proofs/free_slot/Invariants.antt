-- `slots::free_slot` meets its contract: no slot passed is empty. Assumes nothing.
use Rattle.slots.proofs.SlotLaws.{one_more}
use Rattle.slots.specs.Slots.{slot_at, some, none}
use native.Mathlib.Omega.{arith}
use Prim.Native.Nat.{ℕ, ◌+◌, ◌-◌, ◌<◌, ◌≤◌}
use mathlib.Core.Path.{◌≡◌}
use Rattle.slots.proofs.free_slot.Given as goal

abbrev pub invariant-loop-tries : goal.invariant-loop-tries
invariant-loop-tries l = (l.tries ≤ 64) × ((j : ℕ) → j < l.tries → slot_at l.places l.base (l.start + j) ≡ 0 → ⊥)
