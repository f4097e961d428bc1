-- `lock_reader::actions::actions_size` meets its contract: the bytes so far and those of the strings left are those of all. Assumes nothing.
use Rattle.locks.specs.Reading.{things_from, action_step, actions_read, size_with, between_actions}
use Rattle.permits.specs.Permits.{quoted}
use mathlib.Core.Path.{◌≡◌}
use Prim.Native.Nat.{◌≤◌, ◌+◌, ◌*◌, ◌-◌}
use Rattle.lock_reader.proofs.actions.actions_size.Given as goal

abbrev pub invariant-loop : goal.invariant-loop
invariant-loop l =
    (size_with l.size between_actions quoted (things_from (16 - l.counter) (action_step l.actions) l.at) ≡ size_with 0 between_actions quoted (actions_read l.actions))
    × (l.size + 131 * (16 - l.counter) ≤ 2096)
