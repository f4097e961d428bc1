-- `lock_reader::tests::tests_size` meets its contract: the bytes so far and those of the tests left are those of all. Assumes nothing.
use native.Mathlib.Omega.{arith}
use Rattle.locks.proofs.TestLaws.{few_of, none_of, size_none, tests_wrong, tests_last, tests_on}
use Rattle.locks.specs.Reading.{test_size}
use mathlib.Core.Path.{◌≡◌, refl, ◌∙◌}
use Prim.Native.Nat.{◌-◌, ◌+◌}
use Rattle.lock_reader.proofs.tests.tests_size.Goals as goal

pub loop-init : goal.loop-init
loop-init c = (refl, omega arith, omega arith)

pub returns-then-t-eq0 : goal.returns-then-t-eq0
returns-then-t-eq0 c = record { answer = tests_wrong _ _ (16 - c.loop.counter) _ _ c.test_at-t.ensures _ (test_size _) refl (omega arith) c.if-t-eq0.true ∙ c.loop.invariant.0; small = none_of _ }

pub returns-then-t-lock : goal.returns-then-t-lock
returns-then-t-lock c = record { answer = tests_last _ _ (16 - c.loop.counter) _ _ c.test_at-t.ensures _ _ c.test_size.ensures.0 (omega arith) c.if-t-eq0.false c.if-t-lock.true ∙ c.loop.invariant.0; small = λ m. few_of _ _ m (omega arith) }

pub loop-preserved : goal.loop-preserved
loop-preserved c =
    let m : 16 - (c.loop.counter + 1) ≡ 16 - c.loop.counter - 1 = omega arith in
    (rw m (tests_on _ _ (16 - c.loop.counter) _ _ c.test_at-t.ensures _ _ c.test_size.ensures.0 (omega arith) c.if-t-eq0.false c.if-t-lock.false ∙ c.loop.invariant.0), omega arith, omega arith)

pub returns : goal.returns
returns c = record { answer = size_none _ _ _ (16 - c.loop.counter) _ _ (omega arith) ∙ c.loop.invariant.0; small = none_of _ }
