-- `lock_reader::tests::tests_size` meets its contract: the bytes so far and those of the tests left are those of all. Assumes nothing.
use Rattle.locks.specs.Reading.{things_from, test_step, tests_read, size_with, between_tests}
use Rattle.permits.specs.Permits.{test_text}
use lib.ListN.{length}
use mathlib.Core.Path.{◌≡◌}
use Prim.Native.Nat.{◌≤◌, ◌+◌, ◌*◌, ◌-◌}
use Rattle.lock_reader.proofs.tests.tests_size.Given as goal

abbrev pub invariant-loop : goal.invariant-loop
invariant-loop l =
    (size_with l.size between_tests test_text (things_from (16 - l.counter) (test_step l.vocabulary l.lock) l.at) ≡ size_with 0 between_tests test_text (tests_read l.vocabulary l.lock))
    × (l.size + 402 * (16 - l.counter) ≤ 6432)
    × (l.at ≤ length l.lock)
