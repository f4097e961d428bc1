-- `locking::put_tests` meets its contract: what is left to put behind the place is the text of the tests left. Assumes nothing.
use native.Mathlib.Omega.{arith}
use borrow.Author.Rules.{rules}
use Rattle.locks.proofs.TestLaws.{tests_first, tests_end, tests_more, tests_left}
use Rattle.locks.proofs.PutLaws.{Rest, rest_start, rest_last, rest_on, rest_room}
use Rattle.locks.proofs.ListedLaws.{some_left}
use Rattle.locks.specs.Reading.{are_some, things_from, test_step, test_in, text_of, between_tests, tests_text}
use Rattle.permits.specs.Permits.{test_text}
use Rattle.slices.specs.Parts.{part}
use lib.ListN.{length}
use mathlib.Core.Bool.{true}
use mathlib.Core.Path.{◌≡◌}
use Prim.Native.Nat.{◌≤◌, ◌-◌}
use Rattle.locking.proofs.put_tests.Given as goal

abbrev pub invariant-loop : goal.invariant-loop
invariant-loop l =
    (are_some (things_from (16 - l.counter) (test_step l.vocabulary l.lock) l.next) ≡ true)
    × (l.next ≤ length l.lock)
    × Rest l.initial.room l.at (tests_text l.vocabulary l.lock) l.room l.end (text_of between_tests test_text (things_from (16 - l.counter) (test_step l.vocabulary l.lock) l.next))
