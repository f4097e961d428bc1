-- `locking::put_actions` meets its contract: what is left to put behind the place is the text of the strings left. Assumes nothing.
use Rattle.locks.proofs.PutLaws.{rest_room}
use native.Mathlib.Omega.{arith}
use borrow.Author.Rules.{rules}
use Rattle.locks.proofs.TestLaws.{actions_first, actions_end, actions_more, actions_left}
use Rattle.locks.proofs.PutLaws.{Rest, rest_start, rest_last, rest_on}
use Rattle.locks.proofs.ListedLaws.{some_left}
use Rattle.locks.specs.Reading.{are_some, things_from, action_step, text_of, between_actions, actions_text}
use Rattle.permits.specs.Permits.{quoted}
use Rattle.slices.specs.Parts.{part}
use mathlib.Core.Bool.{true}
use mathlib.Core.Path.{◌≡◌}
use Prim.Native.Nat.{◌-◌}
use Rattle.locking.proofs.put_actions.Given as goal

abbrev pub invariant-loop : goal.invariant-loop
invariant-loop l =
    (are_some (things_from (16 - l.counter) (action_step l.actions) l.next) ≡ true)
    × Rest l.initial.room l.at (actions_text l.actions) l.room l.end (text_of between_actions quoted (things_from (16 - l.counter) (action_step l.actions) l.next))
