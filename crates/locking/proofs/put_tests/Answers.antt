-- `locking::put_tests` meets its contract: what is left to put behind the place is the text of the tests left. Assumes nothing.
use native.Mathlib.Omega.{arith}
use borrow.Author.Rules.{rules}
use Rattle.locks.proofs.TestLaws.{tests_first, tests_end, tests_more, tests_left}
use Rattle.locks.proofs.PutLaws.{Rest, rest_start, rest_last, rest_on, rest_room}
use Rattle.locks.proofs.ListedLaws.{some_left}
use Rattle.locks.specs.Reading.{are_some, things_from, test_step, test_in, text_of, between_tests, tests_text}
use Rattle.permits.specs.Permits.{test_text}
use Rattle.slices.specs.Parts.{part}
use lib.ListN.{length}
use mathlib.Core.Bool.{true}
use mathlib.Core.Path.{◌≡◌}
use Prim.Native.Nat.{◌≤◌, ◌-◌, ◌+◌}
use Rattle.locking.proofs.put_tests.Goals as goal

pub loop-init : goal.loop-init
loop-init c = (c.requires.tests_value, omega arith, rest_start _ _ _)

pub put_test-end-requires : goal.put_test-end-requires
unfolding test_in part
put_test-end-requires c = omega (arith, tests_first _ _ (16 - c.loop.counter) _ _ c.test_at-t.ensures c.loop.invariant.0, c.loop.invariant.2.stop, c.loop.invariant.2.long)

pub returns-then-t-lock : goal.returns-then-t-lock
unfolding test_in part
returns-then-t-lock c = rest_last c.loop.invariant.2 (tests_end _ _ (16 - c.loop.counter) _ _ c.test_at-t.ensures c.loop.invariant.0 c.if-t-lock.true) c.put_test-end.ensures

pub overflow_add-next : goal.overflow_add-next
overflow_add-next c = omega (arith, c.test_at-t.ensures.lies.next_high, c.well_formed.1.1.0.0)

pub put-end-requires : goal.put-end-requires
unfolding test_in part
put-end-requires c = rest_room c.loop.invariant.2 between_tests _ (tests_more _ _ (16 - c.loop.counter) _ _ c.test_at-t.ensures c.loop.invariant.0 c.if-t-lock.false) c.put_test-end.ensures c.requires.lock_in_bounds

pub loop-preserved : goal.loop-preserved
unfolding test_in part
loop-preserved c =
    let m : 16 - (c.loop.counter + 1) ≡ 16 - c.loop.counter - 1 = omega arith in
    rw m (
      tests_left _ _ (16 - c.loop.counter) _ _ c.test_at-t.ensures c.loop.invariant.0 c.if-t-lock.false,
      omega (arith, c.test_at-t.ensures.lies.next_high),
      rest_on c.loop.invariant.2 (tests_more _ _ (16 - c.loop.counter) _ _ c.test_at-t.ensures c.loop.invariant.0 c.if-t-lock.false) c.put_test-end.ensures c.put-end.ensures c.requires.lock_in_bounds,
    )

pub returns : goal.returns
returns c = absurd (omega (arith, some_left _ (16 - c.loop.counter) _ c.loop.invariant.0))
